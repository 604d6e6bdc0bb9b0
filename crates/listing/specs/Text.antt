-- What a function that writes a piece of text leaves, and what listing writes into a lent text.
use Rattle.std.specs.Prelude.{ℕ, ◌+◌, ◌≡◌, cond, List, [], ◌++◌, ltb, ℤ, length}
use Rattle.bits.specs.Bits.{placed}
use Rattle.rules.specs.Listing.{space, newline, ended, decimal, decimal_signed, hex_digits, listing_of}

-- a word was put over a text at a place, and what comes next goes right after it
pub record Wrote (before after : List ℕ) (at next : ℕ) (word : List ℕ) : Type 0 where
  pub place : next ≡ at + length word
  pub text : after ≡ placed before at word

-- the two halves of a listing's first line, where all letters between words are spaces
abbrev pub counts : ℕ → ℕ → ℕ → ℕ → List ℕ
counts points present columns rows =
    ((ended (decimal points) space ++ ended (decimal present) space) ++ ended (decimal columns) space)
    ++ ended (decimal rows) space

abbrev pub scales : ℤ → ℤ → ℕ → ℕ → List ℕ
scales d e r bits =
    ((ended (decimal_signed d) space ++ ended (decimal_signed e) space) ++ ended (hex_digits r) space)
    ++ ended (decimal bits) newline

-- room for every listing
abbrev pub text_room : ℕ
text_room = 45144

-- the listing of s, put at the front of a lent text; nothing where that is too short
unfoldable pub listed : List ℕ → List ℕ → List ℕ
listed s text = cond (ltb (length text) text_room) [] (listing_of s)
