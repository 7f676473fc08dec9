-- Two texts of one function, and how it is spelled in each.
use Rattle.std.specs.Prelude.{◌≡◌, ℕ, List, [], ◌∷◌, codes, pos}
use Rattle.std.proofs.Common.{refl}
use Rattle.pie_lexer.specs.declared.token.Token.{Token}
use Rattle.pie_lexer.specs.declared.token.TokenKind.TheVariants as kinds
use Rattle.pie_spelling_laws.specs.Spelling.{joined, tokens_within, kinds_of}

abbrev wide : List ℕ
wide = codes "func f ( ) -> text { \"a  b\" } // the end"

abbrev wide_tokens : List Token
wide_tokens =
    record { at = 0; end = 4; kind = kinds.Func } ∷ record {
      at = 5;
      end = 6;
      kind = kinds.Name
          (codes "f");
    } ∷ record { at = 7; end = 8; kind = kinds.OpenRound } ∷
    record { at = 9; end = 10; kind = kinds.CloseRound } ∷ record { at = 11; end = 13; kind = kinds.Arrow } ∷ record
    { at = 14; end = 18; kind = kinds.TextWord } ∷
    record { at = 19; end = 20; kind = kinds.OpenBrace } ∷ record {
      at = 21;
      end = 27;
      kind = kinds.Text
          (codes "a  b");
    } ∷ record { at = 28; end = 29; kind = kinds.CloseBrace } ∷ []

abbrev narrow : List ℕ
narrow = codes "func f()->text{\"a  b\"}"

abbrev narrow_tokens : List Token
narrow_tokens =
    record { at = 0; end = 4; kind = kinds.Func } ∷ record {
      at = 5;
      end = 6;
      kind = kinds.Name
          (codes "f");
    } ∷ record { at = 6; end = 7; kind = kinds.OpenRound } ∷
    record { at = 7; end = 8; kind = kinds.CloseRound } ∷ record { at = 8; end = 10; kind = kinds.Arrow } ∷ record
    { at = 10; end = 14; kind = kinds.TextWord } ∷
    record { at = 14; end = 15; kind = kinds.OpenBrace } ∷ record {
      at = 15;
      end = 21;
      kind = kinds.Text
          (codes "a  b");
    } ∷ record { at = 21; end = 22; kind = kinds.CloseBrace } ∷ []

-- spaces between tokens and comments don't count; those inside a text in quotes do
spaced_alike : joined wide wide_tokens ≡ codes "func f ( ) -> text { \"a  b\" }"
spaced_alike = refl

packed_alike : joined narrow narrow_tokens ≡ codes "func f ( ) -> text { \"a  b\" }"
packed_alike = refl

-- all tokens stand within the function, and three within its parameters' brackets and its name
all_within : tokens_within 0 29 wide_tokens ≡ wide_tokens
all_within = refl

some_within : kinds_of (tokens_within 5 10 wide_tokens) ≡ kinds.Name (codes "f") ∷ kinds.OpenRound ∷ kinds.CloseRound ∷ []
some_within = refl

-- the law goes one way alone: these two tokens have one kind, and are spelled apart
abbrev seven : List Token
seven = record { at = 0; end = 1; kind = kinds.Int (pos 7) } ∷ []

abbrev zero_seven : List Token
zero_seven = record { at = 0; end = 2; kind = kinds.Int (pos 7) } ∷ []

one_kind : kinds_of seven ≡ kinds_of zero_seven
one_kind = refl

one_spelling : joined (codes "7") seven ≡ codes "7"
one_spelling = refl

another_spelling : joined (codes "07") zero_seven ≡ codes "07"
another_spelling = refl
