-- Worked examples of numbers and words as bytes.
use Rattle.std.specs.Prelude.{ℕ, List, [], ◌∷◌, ◌≡◌, refl}
use Rattle.text.specs.Decimal.{digits_by, decimal_of}
use Rattle.text.specs.Ascii.{ascii}

-- bytes, and the text that they are to be
pub record Case : Type 0 where
  pub got : List ℕ
  pub wanted : List ℕ

abbrev pub case : List ℕ → List ℕ → Case
case g w = record { got = g; wanted = w }

unfoldable pub cases : List Case
cases =
    case (ascii "answer=") (97 ∷ 110 ∷ 115 ∷ 119 ∷ 101 ∷ 114 ∷ 61 ∷ [])
    ∷ case (decimal_of 0) (ascii "0")
    ∷ case (decimal_of 7) (ascii "7")
    ∷ case (decimal_of 10) (ascii "10")
    ∷ case (decimal_of 65535) (ascii "65535")
    ∷ case (decimal_of 4294967295) (ascii "4294967295")
    ∷ case (decimal_of 18446744073709551615) (ascii "18446744073709551615")
    ∷ []

-- each case of a list got what it wanted
abbrev pub Right : List Case → Type 0
Right [] = Unit {0}
Right (c ∷ cs) = (c.got ≡ c.wanted) × Right cs

pub cases_right : Right cases
unfolding cases decimal_of digits_by
cases_right = (refl, (refl, (refl, (refl, (refl, (refl, (refl, tt)))))))
