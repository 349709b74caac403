-- Of two results of a rewrapping only one comes.
use Rattle.std.proofs.Common.{◌≡◌, Bool, ℕ, List, length, Result, Ok, Err, refl, sym, subst, ◌∙◌, ◌↔◌, true}
use Rattle.block_pair.specs.Pair.{AreInverse}
use Rattle.key_wrap_core.specs.declared.agreed_form.AgreedForm.{AgreedForm}
use Rattle.key_wrap_core.specs.declared.agreed_form.AgreedForm.TheVariants as agreed
use Rattle.key_wrap_core.specs.declared.rewrapping.RewrapForms.{RewrapForms}
use Rattle.key_wrap_core.specs.declared.rewrapping.RewrapForms.TheVariants.{Kept, Changed}
use Rattle.key_wrap_core.specs.declared.rewrapping.Rewrapped.{Rewrapped}
use Rattle.key_wrap_core.specs.declared.rewrapping.Rewrapped.TheVariants.{Fresh, AlreadyNew}
use Rattle.key_wrap_core.specs.declared.faults.Refusal.{Refusal}
use Rattle.key_wrap_core.specs.declared.faults.Refusal.TheVariants.{BadLength, Integrity, KeyNotPlain}
use Rattle.key_wrap_core.specs.Forms.{IsWrapping, IsKeyLengthAs}
use Rattle.key_wrap_core.specs.Rewrap.{IsFrom, IsRewrapped, IsRewrapping, IsNew, IsRefused, HasFault, HasGoodKey, RewrapResults, back, to_form}
use Rattle.key_wrap_core.proofs.Rewraps.{only_fault}

key_legal : (F : List ℕ → List ℕ) (form : AgreedForm) (key text : List ℕ) → IsWrapping form F key text → IsKeyLengthAs form (length key)
key_legal F (agreed.Plain iv) key text h = h.legal
key_legal F agreed.Padded key text h = h.legal

-- the answer is one
pub same_answer : (forms : RewrapForms) (E F : List ℕ → List ℕ) (text after other : List ℕ) → IsRewrapped forms E F text after
    → IsRewrapped forms E F text other → other ≡ after
same_answer forms E F text after other is is' =
    let same = is.2.only is'.0 is'.1 is'.2.from is'.2.wrapping in
    is.3.alone other (rw (same.0, same.1) at is'.3.wrapping)

-- what is rewrapped is the wrapping of a key whose length is legal in the new form
good_of : (forms : RewrapForms) (E F : List ℕ → List ℕ) (text after : List ℕ) → IsRewrapped forms E F text after → HasGoodKey forms E text
good_of forms E F text after is = (is.0, is.1, is.2, key_legal F (to_form forms is.0) is.1 after is.3.wrapping)

-- and such a text has no fault
no_fault : {E D : List ℕ → List ℕ} (forms : RewrapForms) (text : List ℕ) (fault : Refusal) → AreInverse E D → HasGoodKey forms E text
    → ¬ HasFault forms E text fault
no_fault forms text fault inv good has = (only_fault forms good.0 good.1 text fault inv good.2 has).1 good.3

-- and has no other
same_fault : {E D : List ℕ → List ℕ} (forms : RewrapForms) (text : List ℕ) (fault other : Refusal) → AreInverse E D → HasFault forms E text fault
    → HasFault forms E text other → other ≡ fault
same_fault forms text KeyNotPlain other inv h k = (only_fault forms h.0 h.1 text other inv h.2 k).0
same_fault forms text BadLength BadLength inv h k = refl
same_fault forms text Integrity Integrity inv h k = refl
same_fault forms text BadLength Integrity inv h k = absurd (h k.0)
same_fault forms text Integrity BadLength inv h k = absurd (k h.0)
same_fault forms text fault KeyNotPlain inv h k = sym (only_fault forms k.0 k.1 text fault inv k.2 h).0

pub one_result : {E D : List ℕ → List ℕ} (F : List ℕ → List ℕ) (pass_new : Bool) (forms : RewrapForms) (text after other : List ℕ)
    (result other_result : Result Rewrapped Refusal) → AreInverse E D → IsRewrapping pass_new forms E F text result after
    → IsRewrapping pass_new forms E F text other_result other → (other_result ≡ result) × (other ≡ after)
one_result {E = E} F pass_new forms text after other (Ok Fresh) (Ok Fresh) inv h k = (refl, same_answer forms E F text after other h k)
one_result F pass_new forms text after other (Ok AlreadyNew) (Ok AlreadyNew) inv h k = (refl, k.2 ∙ sym h.2)
one_result F pass_new forms text after other (Ok Fresh) (Ok AlreadyNew) inv h k = absurd (k.1.no_old h.0 h.2.from h.1 h.2.wrapping)
one_result F pass_new forms text after other (Ok AlreadyNew) (Ok Fresh) inv h k = absurd (h.1.no_old k.0 k.2.from k.1 k.2.wrapping)
one_result {E = E} F pass_new forms text after other (Ok Fresh) (Err fault) inv h k = absurd (no_fault forms text fault inv (good_of forms E F text after h) k.0.0)
one_result {E = E} F pass_new forms text after other (Err fault) (Ok Fresh) inv h k = absurd (no_fault forms text fault inv (good_of forms E F text other k) h.0.0)
one_result F pass_new forms text after other (Ok AlreadyNew) (Err fault) inv h k = absurd (k.0.1 h.0 h.1)
one_result F pass_new forms text after other (Err fault) (Ok AlreadyNew) inv h k = absurd (h.0.1 k.0 k.1)
one_result F pass_new forms text after other (Err fault) (Err fault') inv h k =
    let same : fault' ≡ fault = same_fault forms text fault fault' inv h.0.0 k.0.0 in (rw same refl, k.1 ∙ sym h.1)

-- a key with a legal length is rewrapped
good_fresh : {E D : List ℕ → List ℕ} (F : List ℕ → List ℕ) (pass_new : Bool) (forms : RewrapForms) (text after : List ℕ)
    (result : Result Rewrapped Refusal) → AreInverse E D → IsRewrapping pass_new forms E F text result after → HasGoodKey forms E text → result ≡ Ok Fresh
good_fresh F pass_new forms text after (Ok Fresh) inv is good = refl
good_fresh F pass_new forms text after (Ok AlreadyNew) inv is good = absurd (is.1.no_old good.0 good.2.from good.1 good.2.wrapping)
good_fresh F pass_new forms text after (Err fault) inv is good = absurd (no_fault forms text fault inv good is.0.0)

-- a result other than a fresh wrapping leaves the text
kept_text : (E F : List ℕ → List ℕ) (pass_new : Bool) (forms : RewrapForms) (text after : List ℕ) (result : Result Rewrapped Refusal)
    → IsRewrapping pass_new forms E F text result after → ¬ (result ≡ Ok Fresh) → after ≡ text
kept_text E F pass_new forms text after (Ok Fresh) is other = absurd (other refl)
kept_text E F pass_new forms text after (Ok AlreadyNew) is other = is.2
kept_text E F pass_new forms text after (Err fault) is other = is.1

-- the same keys belong to both wrappings
same_keys : {E F : List ℕ → List ℕ} (forms : RewrapForms) (text after : List ℕ) → IsRewrapped forms E F text after → (form : AgreedForm) → IsFrom forms form
    → (key : List ℕ) → IsWrapping (to_form forms form) F key after ↔ IsWrapping form E key text
same_keys Kept text after is form from key = (
  λ k. let same = is.3.only form key from k in rw (same.0, same.1) is.2.wrapping,
  λ h. let same = is.2.only form key from h in rw (same.0, same.1) is.3.wrapping,
)
same_keys (Changed old new) text after is form from key = (
  λ k. let same = is.3.only new key refl k in rw (from, same.1) (rw is.2.from at is.2.wrapping),
  λ h. let same = is.2.only form key from h in rw same.1 is.3.wrapping,
)

-- and rewrapping back gives the text
comes_back : {E F : List ℕ → List ℕ} (forms : RewrapForms) (text after other : List ℕ) → IsRewrapped forms E F text after
    → IsRewrapped (back forms) F E after other → other ≡ text
comes_back Kept text after other is is' =
    let same = is.3.only is'.0 is'.1 is'.2.from is'.2.wrapping in is.2.alone other (rw (same.0, same.1) at is'.3.wrapping)
comes_back (Changed old new) text after other is is' =
    let same = is.3.only is'.0 is'.1 is'.2.from is'.2.wrapping in is.2.alone other (rw is.2.from (rw same.1 at is'.3.wrapping))

pub results_of : {E D F : List ℕ → List ℕ} {pass_new : Bool} {forms : RewrapForms} {text after : List ℕ} {result : Result Rewrapped Refusal}
    → AreInverse E D → IsRewrapping pass_new forms E F text result after → RewrapResults pass_new forms E F text result after
results_of {E = E} {F = F} {pass_new = pass_new} {forms = forms} {text = text} {after = after} {result = result} inv is =
    let relation : Result Rewrapped Refusal → Type 0 = λ r. IsRewrapping pass_new forms E F text r after in
    let one = one_result F pass_new forms text after text result in
    record {
      fresh = (
        λ e. good_of forms E F text after (subst relation e is),
        good_fresh F pass_new forms text after result inv is,
      );
      already_new = (
        λ e. let w : (pass_new ≡ true) × IsNew forms E F text × (after ≡ text) = subst relation e is in (w.0, w.1),
        λ h. sym (one (Ok AlreadyNew) inv is (h.0, h.1, refl)).0,
      );
      bad_length = (λ e. let w : IsRefused pass_new forms E F text BadLength × (after ≡ text) = subst relation e is in w.0, λ h. sym (one (Err BadLength) inv is (h, refl)).0);
      integrity = (λ e. let w : IsRefused pass_new forms E F text Integrity × (after ≡ text) = subst relation e is in w.0, λ h. sym (one (Err Integrity) inv is (h, refl)).0);
      key_not_plain = (
        λ e. let w : IsRefused pass_new forms E F text KeyNotPlain × (after ≡ text) = subst relation e is in w.0.0,
        λ h. sym (one (Err KeyNotPlain) inv is ((h, λ pass n. n.no_old h.0 h.2.from h.1 h.2.wrapping), refl)).0,
      );
      kept = kept_text E F pass_new forms text after result is;
      same_key = λ e. same_keys forms text after (subst relation e is);
      restores = λ e other. comes_back forms text after other (subst relation e is);
    }
