-- A block of answers after it was written, and after texts that were put.
use Rattle.key_lines.proofs.Common.{◌≡◌, ℕ, List, [], ◌++◌, take, drop, Option, Result, Ok, Err, true, false, sym, ap, ◌∙◌, append_assoc, append-nil, take-append-drop, IfErr, OnOk, Appends, Appends-trans, Sends}
use Rattle.std.specs.Result.{is_err}

-- all of the block went out
pub Sends-all : (a b : Option (List ℕ)) (block after : List ℕ) → Appends a b block → after ≡ [] → Sends a b block after
Sends-all a b block after went none =
    record { sent = block; written = went; kept = sym (append-nil block) ∙ ap (λ l. block ++ l) (sym none) }

-- or a front of it
pub Sends-front : (a b : Option (List ℕ)) (block after : List ℕ) (n : ℕ) → Appends a b (take n block) → after ≡ drop n block → Sends a b block after
Sends-front a b block after n went rest =
    record { sent = take n block; written = went; kept = sym (take-append-drop n block) ∙ ap (λ l. take n block ++ l) (sym rest) }

-- and then more, with a text behind the block
pub Sends-trans : (a b c : Option (List ℕ)) (block mid after text : List ℕ) → Sends a b block mid → Sends b c (mid ++ text) after
    → Sends a c (block ++ text) after
Sends-trans a b c block mid after text p q = record {
  sent = p.sent ++ q.sent;
  written = Appends-trans a b c p.sent q.sent p.written q.written;
  kept = ap (λ l. l ++ text) p.kept ∙ append_assoc p.sent mid text ∙ ap (λ l. p.sent ++ l) q.kept ∙ sym (append_assoc p.sent q.sent after);
}

-- what a call says if it is refused, and if it is not
pub if_refused : {A E P : Type 0} (r : Result A E) → is_err r ≡ true → IfErr r (λ _. P) → P
if_refused (Ok done) is h = cc is
if_refused (Err fault) is h = h

pub if_done : {A E P : Type 0} (r : Result A E) → is_err r ≡ false → OnOk r P → P
if_done (Ok done) is h = h
if_done (Err fault) is h = cc is
