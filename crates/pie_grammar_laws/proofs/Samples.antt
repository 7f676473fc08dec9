-- Tokens as words of the grammar.
use Rattle.std.proofs.Common.{◌≡◌, inl, inr, ℕ, Bool, true, false, cond, ◌==◌, List, [], ◌∷◌, refl, sym, subst, ap, ◌∙◌, pos}
use Rattle.pie_lexer.specs.declared.token.Token.{Token}
use Rattle.pie_lexer.specs.declared.token.TokenKind.{TokenKind}
use Rattle.pie_lexer.specs.declared.token.TokenKind.TheVariants as tokens
use Rattle.pie_parser.specs.declared.kind.Kind.{Kind}
use Rattle.pie_parser.specs.declared.kind.Kind.TheVariants as kinds
use Rattle.pie_parser.specs.declared.error.ParseFault.TheVariants.{Expected, TooDeep}
use Rattle.pie_parser.specs.declared.tree.Name.{Name}
use Rattle.pie_parser.specs.declared.tree.Index.{Index}
use Rattle.pie_parser.specs.declared.tree.Literal.{Literal}
use Rattle.pie_parser.specs.Plain.{Tree, TLiteral}
use Rattle.pie_parser.specs.Kinds.{is, kind_of_token}
use Rattle.pie_parser.specs.At.{At}
use Rattle.pie_parser.specs.Places.{Parsed, Got, Miss, Parser, then_on, Passed, done, first_kind, next, start, behind, passed, want, open_bracket, name}
use Rattle.pie_parser.specs.Places.{name_in, name_by, index, index_in, index_by}
use Rattle.pie_parser.specs.ExprReading.{literal_in, literal}
use Rattle.pie_parser.specs.TypeGrammar.{Eats, IsName}
use Rattle.pie_parser.proofs.Readings.{is_same, is_other}
use Rattle.pie_grammar_laws.specs.Brackets.{opens}
use Rattle.pie_grammar_laws.proofs.Twins.{place}
use Rattle.pie_grammar_laws.proofs.Tokens.{is_token, unmarked_by, next_first, ByKind, name_kinds, index_kinds, literal_kinds, literal_of}
use Rattle.pie_grammar_laws.proofs.Words.{Then, Word, Been, Fine, fine_got, fine_miss, fine_then, fine_cond, fine_wrong}

-- a token of a kind that has but one, and isn't `by`
pub record Sample (k : Kind) : Type 0 where
  pub kind : TokenKind
  pub same : kind_of_token kind ≡ k
  pub token : is_token k ≡ true
  pub off : is k kinds.By ≡ false

abbrev pub token_of : TokenKind → Token
token_of k = record { kind = k; at = 0; end = 0 }

-- a token of some kind stands between two places
abbrev pub Token_of : (Kind → Type 0) → At → At → Type 0
Token_of P s m = P (next s) × (m ≡ passed s)

pub word_eats : {k : Kind} → Sample k → Word (Eats k)
word_eats {k = k} x = record {
  word = token_of x.kind ∷ [];
  off = λ r b h. is_other k kinds.By x.off (sym x.same ∙ h);
  reads = λ p r b. (0, (x.same, refl));
}

-- what stands at a place where a token is next
pub record Here (s : At) : Type 0 where
  pub first : Token
  pub others : List Token
  pub rest : s.rest ≡ first ∷ others
  pub kind : next s ≡ kind_of_token first.kind
  pub unmarked : s.marked ≡ false
  pub behind : passed s ≡ place first.end others s.marked

pub here : (s : At) → is_token (next s) ≡ true → Here s
here s h = by_rest s.rest refl
  where
    by_rest : (ts : List Token) → s.rest ≡ ts → Here s
    by_rest [] e = let z : false ≡ true = sym (ap is_token (next_first s h ∙ ap first_kind e)) ∙ h in absurd cc
    by_rest (x ∷ ts) e = record {
      first = x;
      others = ts;
      rest = e;
      kind = next_first s h
          ∙ ap first_kind e;
      unmarked = unmarked_by s.marked (first_kind s.rest) h;
      behind = ap (behind s) e;
    }

-- the token that is next is a word
pub been_pass : {s : At} (P : Kind → Type 0) → is_token (next s) ≡ true → P (next s) → Been false (Token_of P) s (passed s)
been_pass {s = s} P h q =
    let x = here s h in
    let k : kind_of_token x.first.kind ≡ cond s.marked kinds.Marked (kind_of_token x.first.kind) = ap (λ b. cond b kinds.Marked (kind_of_token x.first.kind))
    (sym x.unmarked) in
    subst (Been false (Token_of P) s) (sym x.behind) (record {
      word = x.first ∷ [];
      splits = x.rest;
      marks = λ e. x.unmarked;
      reads = λ p r f. (x.first.end, (subst P (x.kind ∙ k) q, refl));
    })

pub pass_fine : {s : At} (P : Kind → Type 0) → is_token (next s) ≡ true → P (next s) → Fine Passed false (Token_of P) s (Got done (passed s))
pass_fine {s = s} P h q = fine_got done (passed s) (been_pass P h q)

-- what is read behind the token that is next
pub fine_pass : {B : Type 0} {k : Bool} {Q : At → At → Type 0} {s : At} (P : Kind → Type 0) (F : At → Parsed B) → is_token (next s) ≡ true → P (next s) → Word Q
    → ((m : At) → m.marked ≡ false → Fine B k Q m (F m)) → Fine B k (Then (Token_of P) Q) s (F (passed s))
fine_pass P F h q w j = fine_then {f = λ _ m. F m} (pass_fine P h q) w (λ a m u. j m (u refl))

-- a token of this kind that is next, and a value of the place behind it
pub fine_eat : {A : Type 0} {j : Bool} {s : At} (k : Kind) (F : At → A) → is_token k ≡ true → next s ≡ k → Fine A j (Eats k) s (Got (F (passed s)) (passed s))
fine_eat {s = s} k F i n = fine_got (F (passed s)) (passed s)
    (let x = been_pass (λ j. j ≡ k) (ap is_token n ∙ i) n in record { word = x.word; splits = x.splits; marks = λ e. x.marks refl; reads = x.reads })

-- a token of this kind
pub want_fine : {k : Kind} {s : At} → Sample k → s.marked ≡ false → Fine Passed false (Eats k) s (want k s)
want_fine {k = k} {s = s} x u = fine_cond (is (next s) k) (λ h. let n = is_same (next s) k h in pass_fine (λ j. j ≡ k) (ap is_token n ∙ x.token) n)
    (λ h. fine_wrong (word_eats x) u)

-- an opening bracket
pub open_fine : {k : Kind} {s : At} (d : ℕ) → Sample k → opens k ≡ true → s.marked ≡ false → Fine Passed false (Eats k) s (open_bracket k d s)
open_fine {k = k} {s = s} d x o u = fine_cond (is (next s) k) (λ h. by_room (is_same (next s) k h)) (λ h. fine_wrong (word_eats x) u)
  where
    by_room : next s ≡ k → Fine Passed false (Eats k) s (cond (d == 0) (Miss TooDeep s) (Got done (passed s)))
    by_room n =
        let y = here s (ap is_token n ∙ x.token) in
        fine_cond (d == 0)
        (λ h. fine_miss TooDeep s (record {
          word = [];
          splits = refl;
          more = y.first ∷ [];
          stands = λ e. (y.first, y.others, [], y.rest, refl);
          off = λ r b e. ap first_kind y.rest ∙ e;
          reads = λ p r b. (y.first.end, (ap (λ c. cond c kinds.Marked (kind_of_token y.first.kind)) u ∙ sym y.kind ∙ n, ap (place y.first.end r) (sym u)));
        }))
        (λ h. pass_fine (λ j. j ≡ k) (ap is_token n ∙ x.token) n)

-- a reading by the first token: what it reads is what it reads elsewhere
module _ {A : Type 0} (read : Parser A) (F : At → Token → List Token → TokenKind → Parsed A) (by_kind : (k : TokenKind) → ByKind F k)
    (empty : (s : At) → s.marked ≡ false → s.rest ≡ [] → read s ≡ Miss Expected s)
    (full : (s : At) (x : Token) (us : List Token) → s.marked ≡ false → s.rest ≡ x ∷ us → read s ≡ F s x us x.kind)
    (w : Word (λ s m. (a : A) × (read s ≡ Got a m))) where
  abbrev IsRead : At → At → Type 0
  IsRead s m = (a : A) × (read s ≡ Got a m)

  first_fine : (s : At) → s.marked ≡ false → Fine A false IsRead s (read s)
  first_fine s u = by_rest s.rest refl
    where
      token : (x : Token) (us : List Token) → s.rest ≡ x ∷ us → ByKind F x.kind → Fine A false IsRead s (read s)
      token x us e (inl h) = subst (Fine A false IsRead s) (sym (full s x us u e ∙ h s x us)) (fine_wrong w u)
      token x us e (inr h) = subst (Fine A false IsRead s) (sym (full s x us u e ∙ h.2 s x us e)) (fine_got (h.1 x) (place x.end us s.marked) (record {
        word = x ∷ [];
        splits = e;
        marks = λ i. u;
        reads = λ p r f. (x.end, (h.1 x, full (place p (x ∷ r) s.marked) x r u refl ∙ h.2 (place p (x ∷ r) s.marked) x r refl));
      }))

      by_rest : (ts : List Token) → s.rest ≡ ts → Fine A false IsRead s (read s)
      by_rest [] e = subst (Fine A false IsRead s) (sym (empty s u e)) (fine_wrong w u)
      by_rest (x ∷ us) e = token x us e (by_kind x.kind)

abbrev pub NameR : At → At → Type 0
NameR s m = (n : Name) × IsName s m n

pub word_name : Word NameR
word_name = record { word = token_of (tokens.Name (97 ∷ [])) ∷ []; off = λ r b h. absurd cc; reads = λ p r b. (0, (_, refl)) }

pub name_fine : {s : At} → s.marked ≡ false → Fine Name false NameR s (name s)
name_fine {s = s} u = first_fine name name_by name_kinds
    (λ s u e. ap (λ b. cond b (Miss Expected s) (name_in s s.rest)) u ∙ ap (name_in s) e)
    (λ s x us u e. ap (λ b. cond b (Miss Expected s) (name_in s s.rest)) u ∙ ap (name_in s) e) word_name s u

abbrev pub IndexR : At → At → Type 0
IndexR s m = (n : Index) × (index s ≡ Got n m)

pub word_index : Word IndexR
word_index = record { word = token_of (tokens.Int (pos 0)) ∷ []; off = λ r b h. absurd cc; reads = λ p r b. (0, (_, refl)) }

pub index_fine : {s : At} → s.marked ≡ false → Fine Index false IndexR s (index s)
index_fine {s = s} u = first_fine index index_by index_kinds
    (λ s u e. ap (λ b. cond b (Miss Expected s) (index_in s s.rest)) u ∙ ap (index_in s) e)
    (λ s x us u e. ap (λ b. cond b (Miss Expected s) (index_in s s.rest)) u ∙ ap (index_in s) e) word_index s u

abbrev pub LiteralR : At → At → Type 0
LiteralR s m = (t : Tree) × (literal s ≡ Got t m)

pub word_literal : Word LiteralR
word_literal = record { word = token_of tokens.UnitWord ∷ []; off = λ r b h. absurd cc; reads = λ p r b. (0, (_, refl)) }

abbrev with_literal : At → Parsed Literal → Parsed Tree
with_literal s p = then_on p (λ l a. Got (TLiteral (start s) (passed a).past l) (passed a))

pub literal_fine : {s : At} → s.marked ≡ false → Fine Tree false LiteralR s (literal s)
literal_fine {s = s} u = first_fine literal literal_of literal_kinds
    (λ s u e. ap (λ b. with_literal s (cond b (Miss Expected s) (literal_in s s.rest))) u ∙ ap (λ ts. with_literal s (literal_in s ts)) e)
    (λ s x us u e. ap (λ b. with_literal s (cond b (Miss Expected s) (literal_in s s.rest))) u ∙ ap (λ ts. with_literal s (literal_in s ts)) e) word_literal s u

-- the tokens of one kind each
pub a_func : Sample kinds.Func
a_func = record { kind = tokens.Func; same = refl; token = refl; off = refl }

pub a_val : Sample kinds.Val
a_val = record { kind = tokens.Val; same = refl; token = refl; off = refl }

pub a_if : Sample kinds.If
a_if = record { kind = tokens.If; same = refl; token = refl; off = refl }

pub a_else : Sample kinds.Else
a_else = record { kind = tokens.Else; same = refl; token = refl; off = refl }

pub a_null : Sample kinds.Null
a_null = record { kind = tokens.Null; same = refl; token = refl; off = refl }

pub a_empty : Sample kinds.Empty
a_empty = record { kind = tokens.Empty; same = refl; token = refl; off = refl }

pub a_require : Sample kinds.Require
a_require = record { kind = tokens.Require; same = refl; token = refl; off = refl }

pub a_run : Sample kinds.Run
a_run = record { kind = tokens.Run; same = refl; token = refl; off = refl }

pub a_hash : Sample kinds.Hash
a_hash = record { kind = tokens.Hash; same = refl; token = refl; off = refl }

pub a_mark : Sample kinds.Mark
a_mark = record { kind = tokens.Mark; same = refl; token = refl; off = refl }

pub a_read : Sample kinds.Read
a_read = record { kind = tokens.Read; same = refl; token = refl; off = refl }

pub a_write : Sample kinds.Write
a_write = record { kind = tokens.Write; same = refl; token = refl; off = refl }

pub a_fail : Sample kinds.Fail
a_fail = record { kind = tokens.Fail; same = refl; token = refl; off = refl }

pub a_for : Sample kinds.For
a_for = record { kind = tokens.For; same = refl; token = refl; off = refl }

pub a_in : Sample kinds.In
a_in = record { kind = tokens.In; same = refl; token = refl; off = refl }

pub a_open_round : Sample kinds.OpenRound
a_open_round = record { kind = tokens.OpenRound; same = refl; token = refl; off = refl }

pub a_close_round : Sample kinds.CloseRound
a_close_round = record { kind = tokens.CloseRound; same = refl; token = refl; off = refl }

pub a_open_brace : Sample kinds.OpenBrace
a_open_brace = record { kind = tokens.OpenBrace; same = refl; token = refl; off = refl }

pub a_close_brace : Sample kinds.CloseBrace
a_close_brace = record { kind = tokens.CloseBrace; same = refl; token = refl; off = refl }

pub a_open_square : Sample kinds.OpenSquare
a_open_square = record { kind = tokens.OpenSquare; same = refl; token = refl; off = refl }

pub a_close_square : Sample kinds.CloseSquare
a_close_square = record { kind = tokens.CloseSquare; same = refl; token = refl; off = refl }

pub a_comma : Sample kinds.Comma
a_comma = record { kind = tokens.Comma; same = refl; token = refl; off = refl }

pub a_semicolon : Sample kinds.Semicolon
a_semicolon = record { kind = tokens.Semicolon; same = refl; token = refl; off = refl }

pub a_colon : Sample kinds.Colon
a_colon = record { kind = tokens.Colon; same = refl; token = refl; off = refl }

pub a_assign : Sample kinds.Assign
a_assign = record { kind = tokens.Assign; same = refl; token = refl; off = refl }

pub a_question : Sample kinds.Question
a_question = record { kind = tokens.Question; same = refl; token = refl; off = refl }

pub a_arrow : Sample kinds.Arrow
a_arrow = record { kind = tokens.Arrow; same = refl; token = refl; off = refl }

pub a_dot : Sample kinds.Dot
a_dot = record { kind = tokens.Dot; same = refl; token = refl; off = refl }

pub a_path : Sample kinds.Path
a_path = record { kind = tokens.Path; same = refl; token = refl; off = refl }

pub a_minus : Sample kinds.Minus
a_minus = record { kind = tokens.Minus; same = refl; token = refl; off = refl }

pub a_plus : Sample kinds.Plus
a_plus = record { kind = tokens.Plus; same = refl; token = refl; off = refl }
