-- Reading the KEK files: what a call says of the KEKs that it read, and what follows for the rest of it.
use Rattle.keywrap_cli.proofs.Common.{◌≡◌, ◌↔◌, ℕ, Bool, false, List, [], Option, Some, None, Result, Ok, Err, IsTrue, ap, refl, subst, sym, IsOkAnd, key_expansion, FileFault, AreCiphers, OpensKek, OpensKeks, UnderKek, UnderKeks, UnderNewKek, kek_fault_of, last_kek, one_kek, two_keks, TellsSameKek, Notation, Ciphers, Keks, JobFault}
use Rattle.std.specs.Prelude.{MatchResult}
use Rattle.keywrap_cli.specs.declared.kek_file.KekRole.TheVariants.{Kek, NewKek}

kek_weaker : (notation : Notation) (file file' : Option (List ℕ)) (Then Then' : List ℕ → Type 0) (Refused Refused' : Option FileFault → Type 0)
    → ((K : List ℕ) → Then K → Then' K) → ((why : Option FileFault) → Refused why → Refused' why)
    → UnderKek notation file file' Then Refused → UnderKek notation file file' Then' Refused'
kek_weaker notation file file' Then Then' Refused Refused' ok refused under =
    record { found = under.found; read = under.read; rest = rest under.found under.rest }
  where
    rest : (found : Result (List ℕ) (Option FileFault)) → MatchResult found Then Refused → MatchResult found Then' Refused'
    rest (Ok K) h = ok K h
    rest (Err why) h = refused why h

new_weaker : (notation : Notation) (file file' : Option (Option (List ℕ))) (K : List ℕ) (Then Then' : List ℕ → Type 0)
    (Refused Refused' : Option FileFault → Type 0) → ((L : List ℕ) → Then L → Then' L) → ((why : Option FileFault) → Refused why → Refused' why)
    → UnderNewKek notation file file' K Then Refused → UnderNewKek notation file file' K Then' Refused'
new_weaker notation None None K Then Then' Refused Refused' ok refused under = ok K under
new_weaker notation (Some file) (Some file') K Then Then' Refused Refused' ok refused under =
    kek_weaker notation file file' Then Then' Refused Refused' ok refused under
new_weaker notation None (Some file') K Then Then' Refused Refused' ok refused under = absurd under
new_weaker notation (Some file) None K Then Then' Refused Refused' ok refused under = absurd under

-- what follows from what a call says, for any KEKs and for any fault
pub keks_weaker : (keks keks' : Keks (Option (List ℕ))) (Then Then' : List ℕ → List ℕ → Type 0) (Refused Refused' : JobFault → Type 0)
    → ((K L : List ℕ) → Then K L → Then' K L) → ((fault : JobFault) → Refused fault → Refused' fault)
    → UnderKeks keks keks' Then Refused → UnderKeks keks keks' Then' Refused'
keks_weaker keks keks' Then Then' Refused Refused' ok refused under =
    kek_weaker keks.notation keks.kek keks'.kek
    (λ K. UnderNewKek keks.notation keks.new_kek keks'.new_kek K (λ L. Then K L) (λ why. Refused (kek_fault_of NewKek why)))
    (λ K. UnderNewKek keks.notation keks.new_kek keks'.new_kek K (λ L. Then' K L) (λ why. Refused' (kek_fault_of NewKek why)))
    (λ why. (keks'.new_kek ≡ keks.new_kek) × Refused (kek_fault_of Kek why))
    (λ why. (keks'.new_kek ≡ keks.new_kek) × Refused' (kek_fault_of Kek why))
    (λ K h. new_weaker keks.notation keks.new_kek keks'.new_kek K (λ L. Then K L) (λ L. Then' K L) (λ why. Refused (kek_fault_of NewKek why))
    (λ why. Refused' (kek_fault_of NewKek why)) (λ L g. ok K L g) (λ why g. refused (kek_fault_of NewKek why) g) h)
    (λ why h. (h.0, refused (kek_fault_of Kek why) h.1)) under

abbrev read : Ciphers → Result Ciphers JobFault
read ciphers = Ok ciphers

abbrev not_read : JobFault → Result Ciphers JobFault
not_read fault = Err fault

-- a call that read the KEKs: what holds for their key schedules
pub under_keks : (keks keks' : Keks (Option (List ℕ))) (ciphers : Ciphers) (Then : List ℕ → List ℕ → Type 0) (Refused : JobFault → Type 0)
    → OpensKeks keks keks' (Ok ciphers) → Then ciphers.kek (last_kek ciphers.kek ciphers.new_kek)
    → UnderKeks keks keks' (λ K L. Then (key_expansion K) (key_expansion L)) Refused
under_keks keks keks' ciphers Then Refused opened h =
    keks_weaker keks keks' (λ K L. IsOkAnd (read ciphers) (λ c. AreCiphers keks.new_kek K L c)) (λ K L. Then (key_expansion K) (key_expansion L))
    (λ fault. read ciphers ≡ Err fault) Refused
    (λ K L is. rw (is.kek, is.last) h) (λ fault e. absurd (cc e)) opened

pub same_kek : (keks keks' : Keks (Option (List ℕ))) (ciphers : Ciphers) → OpensKeks keks keks' (Ok ciphers) → TellsSameKek keks keks' ciphers.same
same_kek keks keks' ciphers opened =
    keks_weaker keks keks' (λ K L. IsOkAnd (read ciphers) (λ c. AreCiphers keks.new_kek K L c)) _ (λ fault. read ciphers ≡ Err fault) (λ _. ⊥)
    (λ K L is. is.same) (λ fault e. cc e) opened

-- a call that was refused a KEK
pub refused_keks : (keks keks' : Keks (Option (List ℕ))) (fault : JobFault) (Then : List ℕ → List ℕ → Type 0) (Refused : JobFault → Type 0)
    → OpensKeks keks keks' (Err fault) → Refused fault → UnderKeks keks keks' Then Refused
refused_keks keks keks' fault Then Refused opened h =
    keks_weaker keks keks' (λ K L. IsOkAnd (not_read fault) (λ c. AreCiphers keks.new_kek K L c)) Then (λ f. not_read fault ≡ Err f) Refused
    (λ K L no. absurd no) (λ f e. let same : fault ≡ f = cc in subst Refused same h) opened

-- ---- the calls that read them

pub one_read : (notation : Notation) (kek kek' : Option (List ℕ)) (K aes : List ℕ) → OpensKek Kek notation kek kek' K (Ok aes)
    → OpensKeks (one_kek notation kek) (one_kek notation kek') (Ok (record { kek = aes; new_kek = None; same = false }))
one_read notation kek kek' K aes opened = record {
  found = Ok K;
  read = opened.0;
  rest = record { kek = sym opened.1; last = sym opened.1; same = (λ no. cc, λ h. let no = h.0 in cc) };
}

pub one_refused : (notation : Notation) (kek kek' : Option (List ℕ)) (fault : JobFault) → OpensKek Kek notation kek kek' [] (Err fault)
    → OpensKeks (one_kek notation kek) (one_kek notation kek') (Err fault)
one_refused notation kek kek' fault (why, opened, is) = record { found = Err why; read = opened; rest = (refl, ap Err is) }

pub both_read : (notation : Notation) (kek kek' new new' : Option (List ℕ)) (K L aes new_aes : List ℕ) (same : Bool)
    → OpensKek Kek notation kek kek' K (Ok aes) → OpensKek NewKek notation new new' L (Ok new_aes) → (IsTrue same ↔ (K ≡ L))
    → OpensKeks (two_keks notation kek new) (two_keks notation kek' new') (Ok (record { kek = aes; new_kek = Some new_aes; same = same }))
both_read notation kek kek' new new' K L aes new_aes same opened new_opened is = record {
  found = Ok K;
  read = opened.0;
  rest = record {
    found = Ok L;
    read = new_opened.0;
    rest = record { kek = sym opened.1; last = sym new_opened.1; same = (λ true. (refl, is.0 true), λ h. is.1 h.1) };
  };
}

pub first_refused : (notation : Notation) (kek kek' new : Option (List ℕ)) (fault : JobFault) → OpensKek Kek notation kek kek' [] (Err fault)
    → OpensKeks (two_keks notation kek new) (two_keks notation kek' new) (Err fault)
first_refused notation kek kek' new fault (why, opened, is) = record { found = Err why; read = opened; rest = (refl, ap Err is) }

pub second_refused : (notation : Notation) (kek kek' new new' : Option (List ℕ)) (K aes : List ℕ) (fault : JobFault)
    → OpensKek Kek notation kek kek' K (Ok aes) → OpensKek NewKek notation new new' [] (Err fault)
    → OpensKeks (two_keks notation kek new) (two_keks notation kek' new') (Err fault)
second_refused notation kek kek' new new' K aes fault opened (why, new_opened, is) =
    record { found = Ok K; read = opened.0; rest = record { found = Err why; read = new_opened; rest = ap Err is } }
