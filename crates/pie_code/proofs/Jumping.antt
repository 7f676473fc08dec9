-- Where jumps are wrong: what each test says, and the least of the places.
use Rattle.std.proofs.Common.{◌≡◌, ℕ, ◌+◌, ◌<◌, ◌≤◌, ◌↔◌, ◌⊎◌, inl, inr, Bool, true, false, not, List, length, get_or, Option, Some, None, MatchOption, IsTrue}
use Rattle.std.proofs.Common.{slice_get, refl, sym, ap, ◌∙◌, subst, arith}
use Rattle.std.proofs.Common.{nat_lt, cond, eqb}
use Rattle.std.specs.Option.{option_eq}
use borrow.Author.Tests.{eqb-true}
use Rattle.std.specs.Option.{is_some}
use Rattle.std.proofs.lemmas.Bool.{cases_lt, ltb-true, lt-ltb}
use Rattle.std.proofs.lemmas.Option.{slice_get-get_or, slice_get_within, same_Some, none-some}
use Rattle.pie_code.specs.declared.instr.Each.{Each as EachLoop}
use Rattle.pie_code.specs.declared.instr.Instr.{Instr}
use Rattle.pie_code.specs.declared.instr.Instr.TheVariants.{Tick, Each}
use Rattle.pie_code.specs.Ways.{target, JumpsTo}
use Rattle.pie_code.specs.Checked.{IsLoop, JumpsWell}
use Rattle.pie_code.specs.Scans.{IsFirst, IsLeast, earlier, JumpIsRight, LoopIsRight, JumpsOut, JumpsLate, Spoils, IsSpoilt}

false_true : false ≡ true → ⊥
false_true e = cc

-- an instruction has one target
pub one_target : (code : List Instr) (at a b : ℕ) → JumpsTo code at a → JumpsTo code at b → a ≡ b
one_target code at a b (i, is, leads) (j, js, other) =
    same_Some a b (sym leads ∙ ap target (same_Some i j (sym is ∙ js)) ∙ other)

pub jumps_to : (code : List Instr) (at to : ℕ) (d : Instr) → at < length code → target (get_or code at d) ≡ Some to → JumpsTo code at to
jumps_to code at to d l e = (get_or code at d, slice_get-get_or code at d l, e)

pub no_jump : (code : List Instr) (at to : ℕ) (d : Instr) → at < length code → target (get_or code at d) ≡ None → JumpsTo code at to → ⊥
no_jump code at to d l e (i, is, leads) =
    let same : i ≡ get_or code at d = same_Some i (get_or code at d) (sym is ∙ slice_get-get_or code at d l) in
    none-some to (sym e ∙ ap target (sym same) ∙ leads)

-- an instruction begins one loop
pub one_loop : (code : List Instr) (at : ℕ) (e f : EachLoop) → IsLoop code at e → IsLoop code at f → e ≡ f
one_loop code at e f is js = let same : Some (Each e) ≡ Some (Each f) = sym is ∙ js in cc

pub jump_right : (code : List Instr) (at to : ℕ) (found : Option EachLoop) → JumpsTo code at to → to < length code → to ≤ at
    → MatchOption found ((e : EachLoop) → IsLoop code to e → ⊥) (λ e. IsLoop code to e) → IsTrue (is_some found) ↔ JumpIsRight code at
jump_right code at to None jumps inside back none = (
  (λ h. absurd (false_true h)),
  (λ right. elim ((right to jumps).1) [ inl l ↦ absurd (omega arith) | inr loop ↦ absurd (none loop.0 loop.1) ]),
)
jump_right code at to (Some e) jumps inside back is = (
  (λ h other j. subst (λ t. (t < length code) × ((at < t) ⊎ ((f : EachLoop) × IsLoop code t f))) (one_target code at to other jumps j) (inside, inr (e, is))),
  (λ right. refl),
)

pub jump_outside : (code : List Instr) (at to : ℕ) → JumpsTo code at to → length code ≤ to → IsTrue (nat_lt to (length code)) ↔ JumpIsRight code at
jump_outside code at to jumps out = (
  (λ h. absurd (omega (arith, ltb-true to (length code) h))),
  (λ right. lt-ltb to (length code) ((right to jumps).0)),
)

pub jump_ahead : (code : List Instr) (at to : ℕ) → JumpsTo code at to → to < length code → at < to → JumpIsRight code at
jump_ahead code at to jumps inside ahead = λ other j.
    subst (λ t. (t < length code) × ((at < t) ⊎ ((f : EachLoop) × IsLoop code t f))) (one_target code at to other jumps j) (inside, inl ahead)

-- both of two properties, tested one after the other
pub both : {P Q : Type 0} (b : Bool) → P → (IsTrue b ↔ Q) → IsTrue b ↔ (P × Q)
both b p q = ((λ h. (p, q.0 h)), (λ h. q.1 h.1))

-- jumps are right where those out of the place are, and none comes late
pub well_from : (code : List Instr) (at : ℕ) → JumpsOut code at → ((from : ℕ) → JumpsLate code from at → ⊥) → JumpsWell code at
well_from code at out late = record {
  inside = λ to j. (out.0 to j).0;
  back = λ to j l. elim ((out.0 to j).1) [ inl ahead ↦ absurd (omega arith) | inr loop ↦ loop ];
  ticks = λ e is. (out.1 e is).1;
  ends = λ e is. (out.1 e is).0;
  closes = λ e from is j l. elim (cases_lt from e.end) [ inl inside ↦ inside | inr past ↦ absurd (late from (j, l, (e, is, past))) ];
}

pub out_from : (code : List Instr) (at : ℕ) → JumpsWell code at → JumpsOut code at
out_from code at well = (
  (λ to j. (well.inside to j, elim (cases_lt at to) [ inl ahead ↦ inl ahead | inr back ↦ inr (well.back to j back) ])),
  (λ e is. (well.ends e is, well.ticks e is)),
)

pub never_late : (code : List Instr) (from at : ℕ) → JumpsWell code at → JumpsLate code from at → ⊥
never_late code from at well (j, l, (e, is, past)) = let inside = well.closes e from is j l in omega arith

pub late_one : (code : List Instr) (from a b : ℕ) → JumpsLate code from a → JumpsLate code from b → a ≡ b
late_one code from a b late other = one_target code from a b late.0 other.0

-- a target isn't late where no loop begins there, or it lies ahead, or the loop ends behind the jump
pub not_late : (code : List Instr) (from to at : ℕ) → JumpsTo code from to → ((e : EachLoop) → IsLoop code to e → to ≤ from → e.end ≤ from → ⊥)
    → JumpsLate code from at → ⊥
not_late code from to at jumps fine (j, l, (e, is, past)) =
    let same : at ≡ to = one_target code from at to j jumps in
    fine e (subst (λ t. IsLoop code t e) same is) (omega arith) past

pub late_seen : (code : List Instr) (at from : ℕ) (found : Option ℕ) → MatchOption found ((to : ℕ) → JumpsLate code from to → ⊥) (λ to. JumpsLate code from to)
    → JumpsLate code from at → found ≡ Some at
late_seen code at from None none late = absurd (none at late)
late_seen code at from (Some to) late other = ap Some (late_one code from to at late other)

pub late_at : (code : List Instr) (at from : ℕ) (found : Option ℕ) → MatchOption found ((to : ℕ) → JumpsLate code from to → ⊥) (λ to. JumpsLate code from to)
    → found ≡ Some at → JumpsLate code from at
late_at code at from None none e = absurd (none-some at e)
late_at code at from (Some to) late e = subst (λ t. JumpsLate code from t) (same_Some to at e) late

-- the least of the places that one instruction spoils
pub spoils_late : (code : List Instr) (from at : ℕ) → JumpsLate code from at → IsLeast (Spoils code from) (Some at)
spoils_late code from at late = (
  (λ p l spoils. elim spoils [
    | inl own ↦ let back = late.1 in absurd (omega (arith, own.0))
    | inr other ↦ absurd
        (omega (arith, late_one code from p at other late))
  ]),
  inr late,
)

pub spoils_none : (code : List Instr) (from : ℕ) → ((at : ℕ) → JumpsLate code from at → ⊥) → JumpsOut code from → IsLeast (Spoils code from) None
spoils_none code from none out = λ p spoils. elim spoils [ inl own ↦ own.1 out | inr late ↦ none p late ]

pub spoils_itself : (code : List Instr) (from : ℕ) → ((at : ℕ) → JumpsLate code from at → ⊥) → (JumpsOut code from → ⊥) → IsLeast (Spoils code from) (Some from)
spoils_itself code from none out = (
  (λ p l spoils. elim spoils [ inl own ↦ absurd (omega (arith, own.0)) | inr late ↦ none p late ]),
  inl (refl, out),
)

-- the least place of either of two faults
pub least_of : (P Q : ℕ → Type 0) (a b : Option ℕ) → IsLeast P a → IsLeast Q b → IsLeast (λ p. P p ⊎ Q p) (earlier a b)
least_of P Q None None none other = λ p h. elim h [ inl x ↦ none p x | inr y ↦ other p y ]
least_of P Q None (Some b) none least = (
  (λ p l h. elim h [ inl x ↦ none p x | inr y ↦ least.0 p l y ]),
  inr least.1,
)
least_of P Q (Some a) None least none = (
  (λ p l h. elim h [ inl x ↦ least.0 p l x | inr y ↦ none p y ]),
  inl least.1,
)
least_of P Q (Some a) (Some b) least other =
    elim (nat_lt b a) as (λ t. nat_lt b a ≡ t → IsLeast (λ p. P p ⊎ Q p) (cond t (Some b) (Some a))) [
      | true ↦ λ e. (
        (λ p l h. elim h [ inl x ↦ let lt : b < a = ltb-true b a e in let q : p < a = omega arith in least.0 p q x | inr y ↦ other.0 p l y ]),
        inr other.1,
      )
      | false ↦ λ e. ((λ p l h. elim h [ inl x ↦ least.0 p l x | inr y ↦ let q : p < b = omega (arith, past e) in other.0 p q y ]), inl least.1)
    ] refl
  where
    past : nat_lt b a ≡ false → a ≤ b
    past e = elim (cases_lt b a) [ inl l ↦ absurd (false_true (sym e ∙ lt-ltb b a l)) | inr r ↦ r ]

pub least_same : (P Q : ℕ → Type 0) (a : Option ℕ) → ((p : ℕ) → P p → Q p) → ((p : ℕ) → Q p → P p) → IsLeast P a → IsLeast Q a
least_same P Q None to back none = λ p q. none p (back p q)
least_same P Q (Some a) to back least = ((λ p l q. least.0 p l (back p q)), to a least.1)

-- one more instruction
pub spoilt_more : (code : List Instr) (count : ℕ) (a b : Option ℕ) → IsLeast (IsSpoilt code count) a → IsLeast (Spoils code count) b
    → IsLeast (IsSpoilt code (count + 1)) (earlier a b)
spoilt_more code count a b least other =
    least_same (λ p. IsSpoilt code count p ⊎ Spoils code count p) (IsSpoilt code (count + 1)) (earlier a b)
    (λ p h. elim h [ inl x ↦ (x.0, omega (arith, x.1), x.2) | inr y ↦ (count, omega arith, y) ])
    (λ p h. elim (cases_lt h.0 count) [ inl l ↦ inl (h.0, l, h.2) | inr r ↦ inr (subst (λ k. Spoils code k p) (omega (arith, h.1)) h.2) ])
    (least_of (IsSpoilt code count) (Spoils code count) a b least other)

pub loop_or_none : (i : Instr) → ((e : EachLoop) × (i ≡ Each e)) ⊎ ((e : EachLoop) → i ≡ Each e → ⊥)
loop_or_none (Each e) = inl (e, refl)
loop_or_none i = inr (λ e same. cc)

pub tick_or_not : (i : Instr) → (i ≡ Tick) ⊎ (i ≡ Tick → ⊥)
tick_or_not Tick = inl refl
tick_or_not i = inr (λ same. cc)

loop_there : (found : Option Instr) → ((e : EachLoop) × (found ≡ Some (Each e))) ⊎ ((e : EachLoop) → found ≡ Some (Each e) → ⊥)
loop_there None = inr (λ e same. none-some (Each e) same)
loop_there (Some i) = elim (loop_or_none i) [ inl h ↦ inl (h.0, ap Some h.1) | inr none ↦ inr (λ e same. none e (same_Some i (Each e) same)) ]

tick_there : (found : Option Instr) → (found ≡ Some Tick) ⊎ (found ≡ Some Tick → ⊥)
tick_there None = inr (λ same. none-some Tick same)
tick_there (Some i) = elim (tick_or_not i) [ inl h ↦ inl (ap Some h) | inr none ↦ inr (λ same. none (same_Some i Tick same)) ]

jump_or_none : (code : List Instr) (at : ℕ) → ((to : ℕ) × JumpsTo code at to) ⊎ ((to : ℕ) → JumpsTo code at to → ⊥)
jump_or_none code at = found (slice_get code at) refl
  where
    aimed : (i : Instr) → slice_get code at ≡ Some i → (to : Option ℕ) → target i ≡ to → ((to : ℕ) × JumpsTo code at to) ⊎ ((to : ℕ) → JumpsTo code at to → ⊥)
    aimed i is None e = inr (λ to j. none-some to (sym e ∙ ap target (same_Some i j.0 (sym is ∙ j.1)) ∙ j.2))
    aimed i is (Some to) e = inl (to, (i, is, e))

    found : (o : Option Instr) → slice_get code at ≡ o → ((to : ℕ) × JumpsTo code at to) ⊎ ((to : ℕ) → JumpsTo code at to → ⊥)
    found None e = inr (λ to j. none-some j.0 (sym e ∙ j.1))
    found (Some i) e = aimed i e (target i) refl

-- whether jumps are right can be told
right_or_not : (code : List Instr) (at : ℕ) → JumpIsRight code at ⊎ (JumpIsRight code at → ⊥)
right_or_not code at =
    elim (jump_or_none code at) [
      | inr none ↦ inl (λ to j. absurd (none to j))
      | inl jumps ↦ elim (cases_lt jumps.0 (length code)) [
        | inr out ↦ inr (λ right. let inside : jumps.0 < length code = (right jumps.0 jumps.1).0 in omega arith)
        | inl inside ↦ elim (cases_lt at jumps.0) [
          | inl ahead ↦ inl (jump_ahead code at jumps.0 jumps.1 inside ahead)
          | inr back ↦ elim (loop_there (slice_get code jumps.0)) [
            | inl loop ↦ inl (λ to j. subst (λ t. (t < length code) × ((at < t) ⊎ ((f : EachLoop) × IsLoop code t f)))
                (one_target code at jumps.0 to jumps.1 j) (inside, inr loop))
            | inr none ↦ inr (λ right. elim ((right jumps.0 jumps.1).1) [ inl l ↦ omega arith | inr loop ↦ none loop.0 loop.1 ])
          ]
        ]
      ]
    ]

loop_or_not : (code : List Instr) (at : ℕ) → LoopIsRight code at ⊎ (LoopIsRight code at → ⊥)
loop_or_not code at =
    elim (loop_there (slice_get code at)) [
      | inr none ↦ inl (λ e is. absurd (none e is))
      | inl loop ↦ elim (cases_lt at loop.0.end) [
        | inr past ↦ inr (λ right. let l : at < loop.0.end = (right loop.0 loop.1).0 in omega arith)
        | inl l ↦ elim (tick_there (slice_get code (at + 1))) [
          | inl tick ↦ inl (λ e is. (subst (λ (f : EachLoop). at < f.end) (one_loop code at loop.0 e loop.1 is) l, tick))
          | inr none ↦ inr (λ right. none (right loop.0 loop.1).1)
        ]
      ]
    ]

out_or_not : (code : List Instr) (at : ℕ) → JumpsOut code at ⊎ (JumpsOut code at → ⊥)
out_or_not code at =
    elim (right_or_not code at) [
      | inr no_right ↦ inr (λ out. no_right out.0)
      | inl right ↦ elim (loop_or_not code at) [ inr no_loop ↦ inr (λ out. no_loop out.1) | inl loop ↦ inl (right, loop) ]
    ]

-- past the end there are no jumps
out_past : (code : List Instr) (at : ℕ) → length code ≤ at → JumpsOut code at
out_past code at past = (
  (λ to j. let l : at < length code = slice_get_within code at j.0 j.1 in absurd (omega arith)),
  (λ e is. let l : at < length code = slice_get_within code at (Each e) is in absurd (omega arith)),
)

-- where no instruction spoils a place, jumps are right there
not_spoilt : (code : List Instr) (at : ℕ) → (IsSpoilt code (length code) at → ⊥) → JumpsWell code at
not_spoilt code at none = well_from code at out (λ from late. none (from, slice_get_within code from late.0.0 late.0.1, inr late))
  where
    out : JumpsOut code at
    out = elim (cases_lt at (length code)) [
      | inr past ↦ out_past code at past
      | inl l ↦ elim (out_or_not code at) [ inl right ↦ right | inr wrong ↦ absurd (none (at, l, inl (refl, wrong))) ]
    ]

spoilt_is_wrong : (code : List Instr) (count at : ℕ) → IsSpoilt code count at → JumpsWell code at → ⊥
spoilt_is_wrong code count at (from, l, spoils) well =
    elim spoils [
      | inl own ↦ own.1 (subst (JumpsOut code) own.0 (out_from code at well))
      | inr late ↦ never_late code from at well late
    ]

-- the first place at which jumps are wrong is the least that is spoilt
pub first_spoilt : (code : List Instr) (found : Option ℕ) → IsLeast (IsSpoilt code (length code)) found → IsFirst (JumpsWell code) found
first_spoilt code None none = λ at. not_spoilt code at (none at)
first_spoilt code (Some m) least = (
  (λ at l. not_spoilt code at (least.0 at l)),
  spoilt_is_wrong code (length code) m least.1,
)

pub unlike : (found : Option ℕ) (at : ℕ) → option_eq eqb found (Some at) ≡ false → found ≡ Some at → ⊥
unlike found at e same = false_true (sym e ∙ subst (λ (o : Option ℕ). option_eq eqb o (Some at) ≡ true) (sym same) (equal at))
  where
    equal : (n : ℕ) → eqb n n ≡ true
    equal n = grind arith

pub alike : (found : Option ℕ) (at : ℕ) → option_eq eqb found (Some at) ≡ true → found ≡ Some at
alike None at e = absurd (false_true e)
alike (Some n) at e = ap Some (eqb-true n at e)

pub late_more : (code : List Instr) (at now : ℕ) (found : Option ℕ) → MatchOption found ((to : ℕ) → JumpsLate code now to → ⊥) (λ to. JumpsLate code now to)
    → option_eq eqb found (Some at) ≡ false → ((from : ℕ) → from < now → JumpsLate code from at → ⊥) → (from : ℕ) → from < now + 1 → JumpsLate code from at → ⊥
late_more code at now found is e before from l late =
    elim (cases_lt from now) [
      | inl earlier ↦ before from earlier late
      | inr past ↦ unlike found at e (late_seen code at now found is (subst (λ k. JumpsLate code k at) (omega arith) late))
    ]

pub never : (code : List Instr) (at end : ℕ) → length code ≤ end → ((from : ℕ) → from < end → JumpsLate code from at → ⊥)
    → IsTrue false ↔ ((from : ℕ) × JumpsLate code from at)
never code at end all before = (
  (λ h. absurd (false_true h)),
  (λ h. let l : h.0 < length code = slice_get_within code h.0 h.1.0.0 h.1.0.1 in absurd (before h.0 (omega arith) h.1)),
)

pub late_found : (code : List Instr) (at now : ℕ) (found : Option ℕ) → MatchOption found ((to : ℕ) → JumpsLate code now to → ⊥) (λ to. JumpsLate code now to)
    → option_eq eqb found (Some at) ≡ true → IsTrue true ↔ ((from : ℕ) × JumpsLate code from at)
late_found code at now found is e = ((λ h. (now, late_at code at now found is (alike found at e))), (λ h. refl))

pub well_unless_late : (code : List Instr) (at : ℕ) (late : Bool) → JumpsOut code at → (IsTrue late ↔ ((from : ℕ) × JumpsLate code from at))
    → IsTrue (not late) ↔ JumpsWell code at
well_unless_late code at true out told = (
  (λ h. absurd (false_true h)),
  (λ well. let h = told.0 refl in absurd (never_late code h.0 at well h.1)),
)
well_unless_late code at false out told = (
  (λ h. well_from code at out (λ from late. false_true (told.1 (from, late)))),
  (λ well. refl),
)

pub not_well : (code : List Instr) (at : ℕ) (out : Bool) → out ≡ false → (IsTrue out ↔ JumpsOut code at) → IsTrue out ↔ JumpsWell code at
not_well code at out e told = (
  (λ h. absurd (false_true (sym e ∙ h))),
  (λ well. told.1 (out_from code at well)),
)
