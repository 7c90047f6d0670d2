-- Lines of text: a value under its key, and values beside each other.
use Rattle.std.specs.Prelude.{ℕ, List, [], ◌∷◌}
use Prim.Native.String.{String}
use Rattle.common.specs.Put.{joined}
use Rattle.text.specs.Ascii.{ascii}
use Rattle.text.specs.Decimal.{decimal_of}

-- a line: key, `=`, value, newline
abbrev pub line : String → List ℕ → List ℕ
line key value = joined (ascii key ∷ ascii "=" ∷ value ∷ ascii "\n" ∷ [])

-- a value under its key, which ends with `=`
abbrev pub under : List ℕ → List ℕ → List ℕ
under key value = joined (key ∷ value ∷ ascii "\n" ∷ [])

-- "separated by commas"
abbrev pub comma : List ℕ → List ℕ → List ℕ
comma a b = joined (a ∷ ascii "," ∷ b ∷ [])

-- a number between what comes before it and what comes behind
abbrev pub between : List ℕ → ℕ → List ℕ → List ℕ
between before n behind = joined (before ∷ decimal_of n ∷ behind ∷ [])
