-- The line of a check is one line: no character of it is LF, but for the last.
use Rattle.keywrap_cli.proofs.Common.{◌≡◌, ◌<◌, ◌+◌, ◌%◌, ◌==◌, ◌^◌, not, true, Bool, ℕ, List, [], ◌∷◌, ◌++◌, codes, arith, refl, subst, sym, list_all, nat_tests, IsLine, IsKindWith, Kind, kind_line, IsOneLine, Notation}
use Rattle.std.specs.Fmt.{decimal}
use Rattle.std.proofs.lemmas.Fmt.{decimal_by_steps}
use Rattle.key_files.proofs.Lists.{IsLine-of, all-append}
use Rattle.key_wrap_core.specs.declared.forms.Kind.TheVariants as kinds
use Rattle.keywrap_cli.specs.declared.files.Notation.TheVariants.{Raw, Hex, Base64, Base64Url}

-- any byte but LF
abbrev is_other : ℕ → Bool
is_other c = not (c == 10)

digit : (d : ℕ) → is_other (48 + d) ≡ true
digit d = grind (arith, nat_tests)

digits : (m : ℕ) → m < 2 ^ 64 → list_all is_other (decimal m) ≡ true
digits m fits =
    decimal_by_steps (λ n ds. list_all is_other ds ≡ true) (λ n _. rw (digit n) refl)
    (λ n ds _ h. all-append is_other ds ((48 + n % 10) ∷ []) h (rw (digit (n % 10)) refl)) m fits

number_line : (front : List ℕ) (m : ℕ) → list_all is_other front ≡ true → m < 2 ^ 64 → IsLine (front ++ decimal m ++ 10 ∷ [])
number_line front m all fits = IsLine-of is_other (front ++ decimal m) refl (all-append is_other front (decimal m) all (digits m fits))

kind_is_line : (iv : ℕ) (E : List ℕ → List ℕ) (X : List ℕ) (kind : Kind) → IsKindWith iv E X kind → IsLine (kind_line kind)
kind_is_line iv E X (kinds.Plain m) is =
    let legal = is.2.legal in
    number_line (codes "plain ") m refl (omega (arith, is.1, legal))
kind_is_line iv E X (kinds.Padded m) is =
    let legal = is.2.legal in
    number_line (codes "padded ") m refl (omega (arith, is.1, legal))
kind_is_line iv E X kinds.Neither is = IsLine-of is_other (codes "none") refl refl

one_line : (notation : Notation) (text : List ℕ) → IsLine text → IsOneLine notation text
one_line Raw text line = tt
one_line Hex text line = line
one_line Base64 text line = line
one_line Base64Url text line = line

pub check_line : (iv : ℕ) (E : List ℕ → List ℕ) (X : List ℕ) (notation : Notation) (text : List ℕ) (kind : Kind) → IsKindWith iv E X kind
    → text ≡ kind_line kind → IsOneLine notation text
check_line iv E X notation text kind is same = one_line notation text (subst IsLine (sym same) (kind_is_line iv E X kind is))
