-- What is read is what is written.
use Rattle.std.proofs.Common.{◌≡◌, ◌⊎◌, inl, inr, ℕ, zero, suc, ◌+◌, ◌≤◌, pos, negsuc, ℤ, Bool, true, false, cond, List, [], ◌∷◌, ◌++◌, length, drop, Option}
use Rattle.std.proofs.Common.{Some, None, Ok, Err, Result, refl, sym, subst, ap, ◌∙◌, append_assoc, arith}
use Rattle.std.specs.Prelude.{nat_le, codes}
use Rattle.std.specs.Cmp.Lexicographic.{same_text as same_bytes}
use Rattle.std.proofs.lemmas.List.{append-nil}
use Rattle.std.proofs.lemmas.Bool.{leb-true}
use Rattle.hex.specs.Hex.{encode_lower, decode_of, IsBytes}
use Rattle.hex.specs.declared.error.FromHexError.{FromHexError}
use Rattle.hex.proofs.HexLemmas.{decode_of-ok}
use Rattle.pie_base.specs.Path.{is_path}
use Rattle.pie_lexer.specs.declared.token.TokenKind.{TokenKind}
use Rattle.pie_lexer.specs.declared.token.TokenKind.TheVariants as kinds
use Rattle.pie_value.specs.declared.task.Task.{Task}
use Rattle.pie_value.specs.Tree.{Tree, TUnit, TBool, TInt, TText, TPath, TList, TTuple, TNull, TBytes, items_of, count_of}
use Rattle.pie_value.proofs.Elements.{count_of_items}
use Rattle.pie_roots.specs.declared.lead.Lead.{Lead}
use Rattle.pie_roots.specs.declared.lead.Lead.TheVariants as leads
use Rattle.pie_roots.specs.declared.lead.Sign.{Sign}
use Rattle.pie_roots.specs.declared.lead.Sign.TheVariants.{Comma, OpenRound, CloseRound, CloseSquare}
use Rattle.pie_roots.specs.inner.Leads.{same_text, lead_of, digits_lead, word_lead, starts}
use Rattle.pie_roots.specs.inner.Reading.{Parsed, then_on, kept, want, first, negated, below_of, below_zero, lead, text_inside, spelled_path, digits_say}
use Rattle.pie_roots.specs.inner.Reading.{spelled_bytes, path, blob, tuple, more, listed, items, value_by, value_within, ended, task_of, name}
use Rattle.pie_roots.specs.Written.{bracketed, value_tokens, items_tokens, more_tokens, task_tokens, IsProper, AreProper}
use Rattle.pie_roots.proofs.Readings.{missed, some_same, chosen, got, bound, kept_is, kind_of, starts_is, want_is, name_is, inside_is}

-- these tokens begin with those of a value
record Spelt (t : Tree) (ks rest : List TokenKind) : Type 0 where
  pub tokens : ks ≡ value_tokens t ++ rest
  pub proper : IsProper t

-- these tokens begin with those of items, up to a bracket
record Listed (close : Sign) (ts : List Tree) (ks rest : List TokenKind) : Type 0 where
  pub tokens : ks ≡ items_tokens (items_of ts) ++ kind_of close ∷ rest
  pub proper : AreProper (items_of ts)

-- these tokens begin with those of more items, behind others
record More (ts us : List Tree) (ks rest : List TokenKind) : Type 0 where
  pub added : List Tree
  pub all : us ≡ ts ++ added
  pub tokens : ks ≡ more_tokens (items_of added) ++ rest
  pub proper : AreProper (items_of added)

below_is : (k : TokenKind) (n : ℤ) → below_of k ≡ Some n → kinds.Minus ∷ k ∷ [] ≡ value_tokens (TInt n)
below_is (kinds.Int (pos zero)) n h = missed h
below_is (kinds.Int (pos (suc m))) n h = ap (λ z. value_tokens (TInt z)) (some_same h)
below_is (kinds.Int (negsuc m)) n h = missed h
below_is k n h = cc

digits_are : (n m : ℤ) → digits_lead n ≡ Some (leads.Int m) → kinds.Int n ∷ [] ≡ value_tokens (TInt m)
digits_are (pos k) m h = cc
digits_are (negsuc k) m h = missed h

-- the bytes that digits say have these digits
digits_back : (said bytes : List ℕ) (r : Result (List ℕ) FromHexError) → decode_of said ≡ r → digits_say said r ≡ Some bytes → (said ≡ encode_lower bytes)
    × IsBytes bytes
digits_back said bytes (Ok bs) e h = elim (chosen (same_text (encode_lower bs) said) (Some bs) None (Some bytes) h) [
  | inl c ↦ subst (λ (b : List ℕ). (said ≡ encode_lower b) × IsBytes b) (some_same c.1)
      (sym (same_bytes (encode_lower bs) said (sym c.0)), (decode_of-ok said bs e).3)
  | inr c ↦ missed c.1
]
digits_back said bytes (Err f) e h = missed h

path_back : (said text : List ℕ) → spelled_path said ≡ Some text → (said ≡ text) × (is_path text ≡ true)
path_back said text h = elim (chosen (is_path said) (Some said) None (Some text) h) [
  | inl c ↦ subst (λ (b : List ℕ). (said ≡ b) × (is_path b ≡ true)) (some_same c.1) (refl, c.0)
  | inr c ↦ missed c.1
]

word_back : (w : List ℕ) (l : Lead) → word_lead w ≡ Some l → (w ≡ codes "bytes") × (leads.Bytes ≡ l)
word_back w l h = elim (chosen (same_text w (codes "bytes")) (Some leads.Bytes) None (Some l) h) [
  | inl c ↦ (same_bytes w (codes "bytes") (sym c.0), some_same c.1)
  | inr c ↦ missed c.1
]

-- what is read inside a bracket begins with the tokens of a value
module _ (inner : List TokenKind → Parsed Tree) (inside : (ks : List TokenKind) (t : Tree) (rest : List TokenKind) → inner ks ≡ Some (t, rest)
    → Spelt t ks rest) where
  more_sound : (n : ℕ) (ts : List Tree) (ks : List TokenKind) (us : List Tree) (rest : List TokenKind) → more inner n ts ks ≡ Some (us, rest)
      → More ts us ks rest
  more_sound zero ts ks us rest h =
      got (λ (vs : List Tree) (r : List TokenKind). More ts vs ks r) h (record { added = []; all = sym (append-nil ts); tokens = refl; proper = tt })
  more_sound (suc n) ts ks us rest h =
      elim (chosen (starts Comma ks) (then_on (inner (drop 1 ks)) (λ t r. more inner n (ts ++ t ∷ []) r)) (Some (ts, ks)) (Some (us, rest)) h) [
        | inl c ↦
            let b = bound (inner (drop 1 ks)) (λ t r. more inner n (ts ++ t ∷ []) r) us rest c.1 in
            let v = inside (drop 1 ks) b.0 b.1 b.2 in
            let m = more_sound n (ts ++ b.0 ∷ []) b.1 us rest b.3 in
            record {
              added = b.0 ∷ m.added;
              all = m.all ∙ append_assoc ts (b.0 ∷ []) m.added;
              tokens =
                  starts_is Comma ks c.0
                  ∙ ap (λ r. kinds.Comma ∷ r) (v.tokens ∙ ap (λ r. value_tokens b.0 ++ r) m.tokens
                  ∙ sym (append_assoc (value_tokens b.0) (more_tokens (items_of m.added)) rest));
              proper = (v.proper, m.proper);
            }
        | inr c ↦ got (λ (vs : List Tree) (r : List TokenKind). More ts vs ks r) c.1
            (record { added = []; all = sym (append-nil ts); tokens = refl; proper = tt })
      ]

  items_sound : (close : Sign) (ks : List TokenKind) (ts : List Tree) (rest : List TokenKind) → items inner close ks ≡ Some (ts, rest) → Listed close ts ks rest
  items_sound close ks ts rest h =
      elim (chosen (starts close ks) (Some ([], drop 1 ks)) (then_on (listed inner ks) (λ us a. then_on (want close a) (λ _ r. Some (us, r))))
      (Some (ts, rest)) h) [
        | inl c ↦ got (λ (vs : List Tree) (r : List TokenKind). Listed close vs ks r) c.1 (record { tokens = starts_is close ks c.0; proper = tt })
        | inr c ↦
            let b = bound (listed inner ks) (λ us a. then_on (want close a) (λ _ r. Some (us, r))) ts rest c.1 in
            let w = bound (want close b.1) (λ _ r. Some (b.0, r)) ts rest b.3 in
            let f = bound (inner ks) (λ t r. more inner (length r) (t ∷ []) r) b.0 b.1 b.2 in
            let v = inside ks f.0 f.1 f.2 in
            let m = more_sound (length f.1) (f.0 ∷ []) f.1 b.0 b.1 f.3 in
            let P : List Tree → List TokenKind → Type 0 = λ vs r. Listed close vs ks r in
            let whole : ks ≡ items_tokens (items_of (f.0 ∷ m.added)) ++ kind_of close ∷ w.1 =
            v.tokens
            ∙ ap (λ r. value_tokens f.0 ++ r) (m.tokens ∙ ap (λ r. more_tokens (items_of m.added) ++ r) (want_is close b.1 w.0 w.1 w.2))
            ∙ sym (append_assoc (value_tokens f.0) (more_tokens (items_of m.added)) (kind_of close ∷ w.1)) in
            got P w.3 (subst (λ (vs : List Tree). Listed close vs ks w.1) (sym m.all) (record { tokens = whole; proper = (v.proper, m.proper) }))
      ]

  led_sound : (k : TokenKind) (ks : List TokenKind) (t : Tree) (rest : List TokenKind) → then_on (kept (lead_of k) ks) (value_by inner) ≡ Some (t, rest)
      → Spelt t (k ∷ ks) rest
  led_sound kinds.UnitWord ks t rest h = got (λ (u : Tree) (r : List TokenKind). Spelt u (kinds.UnitWord ∷ ks) r) h (record { tokens = refl; proper = tt })
  led_sound kinds.True ks t rest h = got (λ (u : Tree) (r : List TokenKind). Spelt u (kinds.True ∷ ks) r) h (record { tokens = refl; proper = tt })
  led_sound kinds.False ks t rest h = got (λ (u : Tree) (r : List TokenKind). Spelt u (kinds.False ∷ ks) r) h (record { tokens = refl; proper = tt })
  led_sound kinds.Null ks t rest h = got (λ (u : Tree) (r : List TokenKind). Spelt u (kinds.Null ∷ ks) r) h (record { tokens = refl; proper = tt })
  led_sound (kinds.Text said) ks t rest h = got (λ (u : Tree) (r : List TokenKind). Spelt u (kinds.Text said ∷ ks) r) h (record { tokens = refl; proper = tt })
  led_sound (kinds.Int (pos n)) ks t rest h = got (λ (u : Tree) (r : List TokenKind). Spelt u (kinds.Int (pos n) ∷ ks) r) h
      (record { tokens = refl; proper = tt })
  led_sound (kinds.Int (negsuc n)) ks t rest h = missed h
  led_sound kinds.Minus [] t rest h = missed h
  led_sound kinds.Minus (k ∷ ks) t rest h =
      let b = bound (kept (below_of k) ks) (λ n r. Some (TInt n, r)) t rest h in
      let p = kept_is (below_of k) ks b.0 b.1 b.2 in
      got (λ (u : Tree) (r : List TokenKind). Spelt u (kinds.Minus ∷ k ∷ ks) r) b.3
      (record { tokens = ap (λ j. j ++ ks) (below_is k b.0 p.0) ∙ ap (λ r. value_tokens (TInt b.0) ++ r) p.1; proper = tt })
  led_sound kinds.Path ks t rest h =
      let b = bound (path ks) (λ said r. Some (TPath said, r)) t rest h in
      let i = bound (text_inside ks) (λ said r. kept (spelled_path said) r) b.0 b.1 b.2 in
      let p = kept_is (spelled_path i.0) i.1 b.0 b.1 i.3 in
      let q = path_back i.0 b.0 p.0 in
      got (λ (u : Tree) (r : List TokenKind). Spelt u (kinds.Path ∷ ks) r) b.3
      (record {
        tokens = ap (λ r. kinds.Path ∷ r) (inside_is ks i.0 i.1 i.2 ∙ ap (λ w. bracketed w ++ i.1) q.0
            ∙ ap (λ r. bracketed b.0 ++ r) p.1);
        proper = q.1;
      })
  led_sound kinds.OpenSquare ks t rest h =
      let b = bound (items inner CloseSquare ks) (λ ts r. Some (TList (items_of ts), r)) t rest h in
      let l = items_sound CloseSquare ks b.0 b.1 b.2 in
      got (λ (u : Tree) (r : List TokenKind). Spelt u (kinds.OpenSquare ∷ ks) r) b.3
      (record {
        tokens = ap (λ r. kinds.OpenSquare ∷ r) (l.tokens
            ∙ sym (append_assoc (items_tokens (items_of b.0)) (kinds.CloseSquare ∷ []) b.1));
        proper = l.proper;
      })
  led_sound kinds.OpenRound ks t rest h =
      let b = bound (items inner CloseRound ks) (λ ts r. kept (tuple ts) r) t rest h in
      let l = items_sound CloseRound ks b.0 b.1 b.2 in
      let p = kept_is (tuple b.0) b.1 t rest b.3 in
      elim (chosen (nat_le 2 (length b.0)) (Some (TTuple (items_of b.0))) None (Some t) p.0) [
        | inl c ↦
            let two : 2 ≤ length b.0 = leb-true 2 (length b.0) c.0 in
            subst (λ (u : Tree). Spelt u (kinds.OpenRound ∷ ks) rest) (some_same c.1)
            (record {
              tokens = ap (λ r. kinds.OpenRound ∷ r) (l.tokens ∙ sym (append_assoc (items_tokens (items_of b.0)) (kinds.CloseRound ∷ []) b.1))
                  ∙ ap (λ r. value_tokens (TTuple (items_of b.0)) ++ r) p.1;
              proper = (omega (arith, count_of_items b.0), l.proper);
            })
        | inr c ↦ missed c.1
      ]
  led_sound (kinds.Name w) ks t rest h =
      let f = bound (kept (word_lead w) ks) (value_by inner) t rest h in
      let g = kept_is (word_lead w) ks f.0 f.1 f.2 in
      let v = word_back w f.0 g.0 in
      let m : value_by inner leads.Bytes ks ≡ Some (t, rest) = ap (λ l. value_by inner l ks) v.1 ∙ ap (λ r. value_by inner f.0 r) g.1 ∙ f.3 in
      let b = bound (blob ks) (λ bytes r. Some (TBytes bytes, r)) t rest m in
      let i = bound (text_inside ks) (λ said r. kept (spelled_bytes said) r) b.0 b.1 b.2 in
      let p = kept_is (spelled_bytes i.0) i.1 b.0 b.1 i.3 in
      let q = digits_back i.0 b.0 (decode_of i.0) refl p.0 in
      got (λ (u : Tree) (r : List TokenKind). Spelt u (kinds.Name w ∷ ks) r) b.3
      (record {
        tokens = ap (λ x. kinds.Name x ∷ ks) v.0 ∙ ap (λ r. kinds.Name (codes "bytes") ∷ r)
            (inside_is ks i.0 i.1 i.2 ∙ ap (λ x. bracketed x ++ i.1) q.0 ∙ ap (λ r. bracketed (encode_lower b.0) ++ r) p.1);
        proper = q.1;
      })
  led_sound k ks t rest h = missed h

value_sound : (d : ℕ) (ks : List TokenKind) (t : Tree) (rest : List TokenKind) → value_within d ks ≡ Some (t, rest) → Spelt t ks rest
value_sound zero ks t rest h = missed h
value_sound (suc d) [] t rest h = missed h
value_sound (suc d) (k ∷ ks) t rest h = led_sound (value_within d) (value_sound d) k ks t rest h

-- these are the tokens of a task, all of them
pub record IsTask (t : Task) (ks : List TokenKind) : Type 0 where
  pub tokens : ks ≡ task_tokens t
  pub proper : AreProper (items_of t.args)

ended_is : (t u : Task) (ks rest : List TokenKind) → ended t ks ≡ Some (u, rest) → (t ≡ u) × (ks ≡ [])
ended_is t u [] rest h = (got (λ (v : Task) (r : List TokenKind). t ≡ v) h refl, refl)
ended_is t u (k ∷ ks) rest h = missed h

pub task_sound : (ks : List TokenKind) (t : Task) (rest : List TokenKind) → task_of ks ≡ Some (t, rest) → IsTask t ks
task_sound ks t rest h =
    let n = bound (name ks) _ t rest h in
    let o = bound (want OpenRound n.1) _ t rest n.3 in
    let i = bound (items (value_within 64) CloseRound o.1) _ t rest o.3 in
    let l = items_sound (value_within 64) (value_sound 64) CloseRound o.1 i.0 i.1 i.2 in
    let e = ended_is (record { func = n.0; args = i.0 }) t i.1 rest i.3 in
    subst (λ (u : Task). IsTask u ks) e.0
    (record {
      tokens =
          name_is ks n.0 n.1 n.2
          ∙ ap (λ r. kinds.Name n.0 ∷ r) (want_is OpenRound n.1 o.0 o.1 o.2)
          ∙ ap (λ r. kinds.Name n.0 ∷ kinds.OpenRound ∷ r) (l.tokens ∙ ap (λ r. items_tokens (items_of i.0) ++ kinds.CloseRound ∷ r) e.1);
      proper = l.proper;
    })
