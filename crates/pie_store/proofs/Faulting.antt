-- The fault that is answered is one that the bytes have.
use Rattle.std.proofs.Common.{◌≡◌, ◌≢◌, ℕ, suc, ◌+◌, ◌-◌, ◌≤◌, Bool, true, false, cond, List, [], ◌∷◌, ◌++◌, length, get_or, take, drop}
use Rattle.std.proofs.Common.{Result, Ok, Err, refl, sym, ap, subst, ◌∙◌, arith, inl, inr}
use Rattle.std.specs.Prelude.{Some, None, nat_le, nat_lt, slice_index, ◌==◌, ◌⊎◌}
use Rattle.std.specs.List.{AllPairs}
use Rattle.std.specs.Str.{bytes_eq}
use Rattle.std.proofs.lemmas.Slice.Eq.{bytes_eq-Decides}
use Rattle.std.proofs.lemmas.Bool.{leb-false, ltb-true, ltb-false, eqb-true, eqb-false}
use Rattle.std.proofs.lemmas.List.{length-append}
use Rattle.std.proofs.lemmas.List.Elements.{All-nil}
use Rattle.sha2.specs.Sha256.{sha256}
use Rattle.sha2.proofs.Facts256.{length-sha256}
use Rattle.pie_value.specs.declared.value_fault.ValueFault.{ValueFault}
use Rattle.pie_value.specs.Reading.{bytes_of}
use Rattle.pie_value.proofs.Taking.{IsBytes}
use Rattle.pie_record.specs.Canonical.{listed}
use Rattle.pie_record.specs.Reading.{bytes_at}
use Rattle.pie_record.proofs.Codecs.{bytes_codec}
use Rattle.pie_store.specs.declared.image.StoreImage.{StoreImage}
use Rattle.pie_store.specs.declared.store_fault.StoreFault.{StoreFault}
use Rattle.pie_store.specs.declared.store_fault.StoreFault.TheVariants.{Short, Magic, Version, Digest, Row, Order, Rest as More, OutOfMemory}
use Rattle.pie_store.specs.Frame.{magic, sealed, versioned, framed}
use Rattle.pie_store.specs.Canonical.{enc_func}
use Rattle.pie_store.specs.Ranks.{knows}
use Rattle.pie_store.specs.Texts.{IsFunc}
use Rattle.pie_store.specs.inner.Agreement.{AgreesWhole}
use Rattle.pie_store.specs.inner.Reading.{part_at, list_at, next_func, tail_of}
use Rattle.pie_store.specs.inner.Reading.{contents_1, contents_2, body_says, on_body, store_says}
use Rattle.pie_store.specs.Faults.{Head, FaultInside, HasFault, TellsFault}
use Rattle.pie_store.specs.Faults.{func_unread, func_misplaced}
use Rattle.pie_store.specs.Faults.{too_short, other_magic, other_version, too_short_for_1, other_digest, fault_inside}
use Rattle.pie_store.proofs.StoreParts.{placed_ok, list_taken, list_kept, funcs_taker, funcs_push, FuncBefore}
use Rattle.pie_store.proofs.StoreParts.{table_of}
use Rattle.pie_store.proofs.StoreTexts.{frame_ok, front_bytes, known_in_table}
use Rattle.pie_store.proofs.WholeAgain.{table_knows}
use Rattle.pie_store.proofs.Stopping.{Named, placed_err, told_err, funcs_fault}
use Rattle.pie_store.proofs.Stops.{KnownIs}
use Rattle.pie_store.proofs.TailFaults.{then_image_err, tail_fault}

-- ---- what stands behind the version

pub table_known : (funcs : List (List ℕ × List ℕ)) → KnownIs (knows (Some funcs)) None funcs
table_known funcs = record {
  passes = λ rows h i r lt. known_in_table funcs (get_or rows i r).task.func (h i r lt);
  all_pass = λ rows h i r lt. table_knows funcs (get_or rows i r).task.func (h i r lt);
}

pub any_known : (digest : List ℕ) → KnownIs (knows None) (Some digest) []
any_known digest = record { passes = λ rows h. tt; all_pass = λ rows h i r lt. refl }

inside_2_fault : (inside : List ℕ) (e : StoreFault) → IsBytes inside → Named e → contents_2 (5 + length inside) inside ≡ Err e → FaultInside 2 inside e
inside_2_fault inside e fits n f = elim (then_image_err (list_at end (next_func end) inside)
    (λ funcs rest. tail_of end (knows (Some funcs)) 2 None funcs rest) e f) [
      | inl g ↦ elim (funcs_fault end inside e fits (omega arith) n g) [
        | inl y ↦ subst (FaultInside 2 inside) (sym (y.1 ∙ ap (λ (m : ℕ). Row (m + y.0)) five)) (func_unread y.0 refl y.2)
        | inr y ↦ subst (FaultInside 2 inside) (sym (y.1 ∙ ap (λ (m : ℕ). Order (m + y.0)) five)) (func_misplaced y.0 refl y.2)
      ]
      | inr g ↦
          let p = list_taken end (next_func end) enc_func IsFunc (funcs_taker end) inside g.0 g.1 fits g.2 in
          let k = list_kept end (next_func end) (AllPairs FuncBefore) (funcs_push end) inside g.0 g.1 (λ i j d lt within. absurd (omega (arith, within))) g.2 in
          let h : Head 2 inside = record {
            pipeline = None;
            funcs = g.0;
            rest = g.1;
            format = refl;
            few = p.few;
            table = (p.fit, (table_of g.0 p.few p.fit k).ascending);
            parts = p.takes.parts;
          } in
          let shorter : length inside ≡ length (listed enc_func g.0) + length g.1 = ap length p.takes.parts ∙ length-append (listed enc_func g.0) g.1 in
          tail_fault 2 inside h (knows (Some g.0)) end 2 None g.0 e (table_known g.0) p.takes.rest_fits (omega (arith, shorter)) (omega (arith, shorter)) n g.3
    ]
  where
    end : ℕ
    end = 5 + length inside

    five : (5 + length inside) - length inside ≡ 5
    five = omega arith

inside_1_fault : (inside : List ℕ) (e : StoreFault) → IsBytes inside → 40 ≤ length inside → Named e → contents_1 (5 + length inside) inside ≡ Err e
    → FaultInside 1 inside e
inside_1_fault inside e fits long n f = elim (then_image_err (part_at end (bytes_at 32) inside)
    (λ digest rest. tail_of end (knows None) 1 (Some digest) [] rest) e f) [
      | inl g ↦
          let d = placed_err (end - length inside) (bytes_at 32 inside) e n g in
          let v = told_err (bytes_of 32 inside) d.1.0 d.1.1 in
          absurd (too_few (nat_le 32 (length inside)) refl v.0 v.1)
      | inr g ↦
          let p = (bytes_codec 32).taken inside g.0 g.1 fits (placed_ok (end - length inside) (bytes_at 32 inside) g.0 g.1 g.2) in
          let h : Head 1 inside = record {
            pipeline = Some g.0;
            funcs = [];
            rest = g.1;
            format = (refl, p.1, refl);
            few = omega arith;
            table = (All-nil IsFunc, λ i j d lt within. absurd (omega (arith, within)));
            parts = p.0.parts;
          } in
          let shorter : length inside ≡ length g.0 + length g.1 = ap length p.0.parts ∙ length-append g.0 g.1 in
          tail_fault 1 inside h (knows None) end 1 (Some g.0) [] e (any_known g.0) p.0.rest_fits (omega (arith, shorter)) (omega (arith, shorter)) n g.3
    ]
  where
    end : ℕ
    end = 5 + length inside

    too_few : (b : Bool) → nat_le 32 (length inside) ≡ b → (v : ValueFault) → bytes_of 32 inside ≡ Err v → ⊥
    too_few true y v x = absurd (cc (y, x))
    too_few false y v x = absurd (omega (arith, leb-false 32 (length inside) y, long))

-- ---- the frame

sealed_err : (bs : List ℕ) (e : StoreFault) → sealed bs ≡ Err e → (e ≡ Digest) × (sha256 (take (length bs - 32) bs) ≢ drop (length bs - 32) bs)
sealed_err bs e f = by (bytes_eq (sha256 (take (length bs - 32) bs)) (drop (length bs - 32) bs)) refl f
  where
    by : (b : Bool) → bytes_eq (sha256 (take (length bs - 32) bs)) (drop (length bs - 32) bs) ≡ b
        → cond b (Ok (take (length bs - 32) bs)) (Err Digest) ≡ Err e
        → (e ≡ Digest) × (sha256 (take (length bs - 32) bs) ≢ drop (length bs - 32) bs)
    by true y g = absurd (cc)
    by false y g = (cc, λ same. absurd (cc (y, (bytes_eq-Decides (sha256 (take (length bs - 32) bs)) (drop (length bs - 32) bs)).1 same)))

frame_fault : (bs : List ℕ) (e : StoreFault) → framed bs ≡ Err e → HasFault bs e
frame_fault bs e f = length_first (nat_lt (length bs) 49) refl f
  where
    digest : 49 ≤ length bs → take 4 bs ≡ magic → ((slice_index bs 4 ≡ 1) × (77 ≤ length bs)) ⊎ (slice_index bs 4 ≡ 2) → sealed bs ≡ Err e → HasFault bs e
    digest l m v g = let d = sealed_err bs e g in subst (HasFault bs) (sym d.0) (other_digest l m v d.1)

    one : 49 ≤ length bs → take 4 bs ≡ magic → slice_index bs 4 ≡ 1 → (b : Bool) → nat_lt (length bs) 77 ≡ b
        → cond b (Err Short) (sealed bs) ≡ Err e → HasFault bs e
    one l m v true y g = let is : Short ≡ e = cc in subst (HasFault bs) is (too_short_for_1 l m v (ltb-true (length bs) 77 y))
    one l m v false y g = digest l m (inl (v, ltb-false (length bs) 77 y)) g

    two : 49 ≤ length bs → take 4 bs ≡ magic → slice_index bs 4 ≢ 1 → (b : Bool) → (slice_index bs 4 == 2) ≡ b
        → cond b (sealed bs) (Err Version) ≡ Err e → HasFault bs e
    two l m v true y g = digest l m (inr (eqb-true (slice_index bs 4) 2 y)) g
    two l m v false y g = let is : Version ≡ e = cc in subst (HasFault bs) is (other_version l m v (eqb-false (slice_index bs 4) 2 y))

    version : 49 ≤ length bs → take 4 bs ≡ magic → (b : Bool) → (slice_index bs 4 == 1) ≡ b
        → cond b (cond (nat_lt (length bs) 77) (Err Short) (sealed bs)) (cond (slice_index bs 4 == 2) (sealed bs) (Err Version)) ≡ Err e → HasFault bs e
    version l m true y g = one l m (eqb-true (slice_index bs 4) 1 y) (nat_lt (length bs) 77) refl g
    version l m false y g = two l m (eqb-false (slice_index bs 4) 1 y) (slice_index bs 4 == 2) refl g

    magic_next : 49 ≤ length bs → (b : Bool) → bytes_eq (take 4 bs) magic ≡ b → cond b (versioned (slice_index bs 4) bs) (Err Magic) ≡ Err e → HasFault bs e
    magic_next l true y g = version l ((bytes_eq-Decides (take 4 bs) magic).0 y) (slice_index bs 4 == 1) refl g
    magic_next l false y g =
        let is : Magic ≡ e = cc in
        subst (HasFault bs) is (other_magic l (λ same. absurd (cc (y, (bytes_eq-Decides (take 4 bs) magic).1 same))))

    length_first : (b : Bool) → nat_lt (length bs) 49 ≡ b
        → cond b (Err Short) (cond (bytes_eq (take 4 bs) magic) (versioned (slice_index bs 4) bs) (Err Magic)) ≡ Err e → HasFault bs e
    length_first true y g = let is : Short ≡ e = cc in subst (HasFault bs) is (too_short (ltb-true (length bs) 49 y))
    length_first false y g = magic_next (ltb-false (length bs) 49 y) (bytes_eq (take 4 bs) magic) refl g

-- ---- the whole

inside_fault : (version : ℕ) (inside : List ℕ) (e : StoreFault) → IsBytes inside → (version ≡ 1) ⊎ (version ≡ 2) → (version ≡ 1 → 40 ≤ length inside) → Named e
    → body_says (magic ++ (version ∷ inside)) ≡ Err e → FaultInside version inside e
inside_fault version inside e fits (inl one) long n f =
    let end = length (magic ++ (version ∷ inside)) in
    let same : end ≡ 5 + length inside = omega arith in
    let says = ap (λ (v : ℕ). cond (v == 1) (contents_1 end inside) (contents_2 end inside)) one in
    subst (λ (v : ℕ). FaultInside v inside e) (sym one)
    (inside_1_fault inside e fits (long one) n (ap (λ (k : ℕ). contents_1 k inside) (sym same) ∙ sym says ∙ f))
inside_fault version inside e fits (inr two) long n f =
    let end = length (magic ++ (version ∷ inside)) in
    let same : end ≡ 5 + length inside = omega arith in
    let says = ap (λ (v : ℕ). cond (v == 1) (contents_1 end inside) (contents_2 end inside)) two in
    subst (λ (v : ℕ). FaultInside v inside e) (sym two)
    (inside_2_fault inside e fits n (ap (λ (k : ℕ). contents_2 k inside) (sym same) ∙ sym says ∙ f))

long_for_1 : (v n m : ℕ) → ((v ≡ 1) × (77 ≤ n)) ⊎ ((v ≡ 2) × (49 ≤ n)) → v ≡ 1 → n ≡ m + 37 → 40 ≤ m
long_for_1 v n m (inl h) one e = omega (arith, h.1, e)
long_for_1 v n m (inr h) one e = absurd (omega (arith, h.0, one))

store_fault : (bs : List ℕ) (e : StoreFault) → IsBytes bs → Named e → store_says bs ≡ Err e → HasFault bs e
store_fault bs e fits n f = by (framed bs) refl f
  where
    by : (r : Result (List ℕ) StoreFault) → framed bs ≡ r → on_body r ≡ Err e → HasFault bs e
    by (Err d) g x = let is : d ≡ e = cc in subst (HasFault bs) is (frame_fault bs d g)
    by (Ok body) g x =
        let h = frame_ok bs body g in
        let inside : IsBytes h.inside =
        λ i. subst IsBytes h.body_is (front_bytes body (sha256 body) (subst IsBytes h.bytes fits)) (suc (suc (suc (suc (suc i))))) in
        let long : h.version ≡ 1 → 40 ≤ length h.inside =
        λ one. long_for_1 h.version (length bs) (length h.inside) h.long one
        (omega (arith, ap length h.bytes, length-append body (sha256 body), length-sha256 body, ap length h.body_is)) in
        let parts : bs ≡ (magic ++ (h.version ∷ h.inside)) ++ sha256 (magic ++ (h.version ∷ h.inside)) =
        h.bytes ∙ ap (λ (l : List ℕ). l ++ sha256 l) h.body_is in
        fault_inside h.version h.inside e (record { long = h.long; parts = parts })
        (inside_fault h.version h.inside e inside h.one_or_two long n (sym (ap body_says h.body_is) ∙ x))

pub tells_fault : (r : Result StoreImage StoreFault) (bs : List ℕ) → IsBytes bs → AgreesWhole r (store_says bs) → TellsFault r bs
tells_fault (Ok image) bs fits h = tt
tells_fault (Err OutOfMemory) bs fits h = tt
tells_fault (Err Short) bs fits h = store_fault bs Short fits (λ x. absurd (cc (x))) h
tells_fault (Err Magic) bs fits h = store_fault bs Magic fits (λ x. absurd (cc (x))) h
tells_fault (Err Version) bs fits h = store_fault bs Version fits (λ x. absurd (cc (x))) h
tells_fault (Err Digest) bs fits h = store_fault bs Digest fits (λ x. absurd (cc (x))) h
tells_fault (Err (Row at)) bs fits h = store_fault bs (Row at) fits (λ x. absurd (cc (x))) h
tells_fault (Err (Order at)) bs fits h = store_fault bs (Order at) fits (λ x. absurd (cc (x))) h
tells_fault (Err More) bs fits h = store_fault bs More fits (λ x. absurd (cc (x))) h
