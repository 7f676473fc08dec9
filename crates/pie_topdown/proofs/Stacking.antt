-- What waits comes and goes.
use Rattle.std.proofs.Common.{◌≡◌, ℕ, ◌+◌, ◌-◌, ◌*◌, ◌<◌, ◌≤◌, List, [], ◌∷◌, ◌++◌, Option, Some, None, length, sym, ap, subst, ◌∙◌, arith}
use Rattle.std.specs.Prelude.{IfSome, slice_get}
use Rattle.std.specs.List.{All, Contains}
use Rattle.std.specs.Option.{option_to_list}
use Rattle.std.proofs.lemmas.List.{append-nil, length-append}
use Rattle.std.proofs.lemmas.Option.{slice_get-get_or}
use Rattle.std.proofs.Math.Seq.{get_or-append_seam}
use Rattle.std.proofs.lemmas.List.Elements.{All-pop, All-push}
use Rattle.pie_value.specs.declared.task.Task.{Task}
use Rattle.pie_digest.specs.Digests.{function_names}
use Rattle.pie_tables.specs.Tabled.{IsTables}
use Rattle.pie_topdown.specs.declared.builder.Builder.{Builder}
use Rattle.pie_topdown.specs.declared.ledger.Ledger.{Ledger}
use Rattle.pie_topdown.specs.declared.hand.Frame.{Frame}
use Rattle.pie_topdown.specs.inner.Ledgers.{IsLedger, Grows}
use Rattle.pie_topdown.specs.inner.Frames.{AreKnown, IsFrame, IsSite, MayStart}
use Rattle.pie_topdown.specs.inner.Turns.{Keeps, frame_mass, frame_room, stack_mass, stack_room, still}
use Rattle.pie_topdown.proofs.Growing.{frames_grow}
use Rattle.pie_topdown.proofs.Keeping.{same_grows}

-- a build is as it was but for what is staged, what is known of the files
pub same_keeps : (b c : Builder) → c.plan ≡ b.plan → c.ledger ≡ b.ledger → Keeps b c
same_keeps b c plan ledger = record {
  plan = plan;
  grows = same_grows b.ledger c.ledger (ap (λ l. l.tables.names) ledger) (ap (λ l. l.tables.records) ledger);
}

pub same_site : (b c : Builder) → c.plan ≡ b.plan → c.ledger ≡ b.ledger → c.stack ≡ b.stack → IsSite b → IsSite c
same_site b c plan ledger stack is = record {
  ledger = subst IsLedger (sym ledger) is.ledger;
  earlier = subst (λ p. IsTables p.earlier) (sym plan) is.earlier;
  known = subst (λ p. AreKnown p c.ledger.tables.names) (sym plan) (subst (λ l. AreKnown b.plan l.tables.names) (sym ledger) is.known);
  stack = subst (λ v. All (IsFrame c.ledger) v.items) (sym stack) (subst (λ l. All (IsFrame l) b.stack.items) (sym ledger) is.stack);
}

-- a build in which a task has ended or runs
pub grown_site : (b c : Builder) → IsSite b → IsLedger c.ledger → Grows b.ledger c.ledger → c.ledger.tables.names ≡ b.ledger.tables.names → c.plan ≡ b.plan
    → c.stack ≡ b.stack → IsSite c
grown_site b c is ledger grows names plan stack = record {
  ledger = ledger;
  earlier = subst (λ p. IsTables p.earlier) (sym plan) is.earlier;
  known = subst (λ p. AreKnown p c.ledger.tables.names) (sym plan) (subst (AreKnown b.plan) (sym names) is.known);
  stack = subst (λ v. All (IsFrame c.ledger) v.items) (sym stack) (frames_grow b.ledger c.ledger grows b.stack.items is.stack);
}

-- a build in which one task more was entered
pub entered_site : (b c : Builder) (t : Task) → IsSite b → IsLedger c.ledger → Grows b.ledger c.ledger
    → c.ledger.tables.names ≡ b.ledger.tables.names ++ t ∷ [] → Contains (function_names b.plan.typed.now) t.func → c.plan ≡ b.plan → c.stack ≡ b.stack → IsSite c
entered_site b c t is ledger grows names known plan stack = record {
  ledger = ledger;
  earlier = subst (λ p. IsTables p.earlier) (sym plan) is.earlier;
  known = subst (λ p. AreKnown p c.ledger.tables.names) (sym plan) (subst (AreKnown b.plan) (sym names)
      (All-push (λ (u : Task). Contains (function_names b.plan.typed.now) u.func) b.ledger.tables.names t is.known known));
  stack = subst (λ v. All (IsFrame c.ledger) v.items) (sym stack) (frames_grow b.ledger c.ledger grows b.stack.items is.stack);
}

-- ---- something waits

pub pushed_site : (b c : Builder) (e : Frame) → IsSite b → IsFrame b.ledger e → c.ledger ≡ b.ledger → c.plan ≡ b.plan
    → c.stack.items ≡ b.stack.items ++ e ∷ [] → IsSite c
pushed_site b c e is frame ledger plan stack = record {
  ledger = subst IsLedger (sym ledger) is.ledger;
  earlier = subst (λ p. IsTables p.earlier) (sym plan) is.earlier;
  known = subst (λ p. AreKnown p c.ledger.tables.names) (sym plan) (subst (λ l. AreKnown b.plan l.tables.names) (sym ledger) is.known);
  stack = subst (λ l. All (IsFrame l) c.stack.items) (sym ledger) (subst (All (IsFrame b.ledger)) (sym stack)
      (All-push (IsFrame b.ledger) b.stack.items e is.stack frame));
}

mass_push : (es : List Frame) (e : Frame) → stack_mass (es ++ e ∷ []) ≡ stack_mass es + frame_mass e
mass_push [] e = omega arith
mass_push (d ∷ es) e = let more = mass_push es e in omega (arith, more)

room_push : (es : List Frame) (e : Frame) → stack_room (es ++ e ∷ []) ≡ stack_room es + frame_room e
room_push [] e = omega arith
room_push (d ∷ es) e = let more = room_push es e in omega (arith, more)

one_less : (n : ℕ) → n < 50000 → still n ≡ still (n + 1) + 7000020
unfolding still
one_less n lt = let q : 50000 - n ≡ (50000 - (n + 1)) + 1 = omega (arith, lt) in ap (λ k. k * 7000020) q ∙ omega arith

-- a task was entered, and something waits for it
pub pushed_nearer : (n m : ℕ) (es ds : List Frame) (e : Frame) (bound : ℕ) → n < 50000 → m ≡ n + 1 → ds ≡ es ++ e ∷ [] → frame_mass e ≤ bound + 1
    → still m + stack_mass ds + 7000018 < still n + stack_mass es + bound
pushed_nearer n m es ds e bound few one stack light =
    let weight : stack_mass ds ≡ stack_mass es + frame_mass e = ap stack_mass stack ∙ mass_push es e in
    let less = one_less n few in
    let same : still m ≡ still (n + 1) = ap still one in
    omega (arith, weight, less, same, light)

pub pushed_room : (n m : ℕ) (es ds : List Frame) (e : Frame) → n < 50000 → m ≡ n + 1 → ds ≡ es ++ e ∷ []
    → ((50000 - m) + stack_room ds) + 1 ≤ ((50000 - n) + stack_room es) + frame_room e
pushed_room n m es ds e few one stack =
    let places : stack_room ds ≡ stack_room es + frame_room e = ap stack_room stack ∙ room_push es e in
    omega (arith, places, few, one)

-- ---- what waits goes on

pub popped_site : (b c : Builder) (e : Option Frame) → IsSite b → c.ledger ≡ b.ledger → c.plan ≡ b.plan → b.stack.items ≡ c.stack.items ++ option_to_list e
    → IsSite c
popped_site b c e is ledger plan stack = record {
  ledger = subst IsLedger (sym ledger) is.ledger;
  earlier = subst (λ p. IsTables p.earlier) (sym plan) is.earlier;
  known = subst (λ p. AreKnown p c.ledger.tables.names) (sym plan) (subst (λ l. AreKnown b.plan l.tables.names) (sym ledger) is.known);
  stack = subst (λ l. All (IsFrame l) c.stack.items) (sym ledger) (All-pop (IsFrame b.ledger) b.stack.items c.stack.items e stack is.stack).0;
}

pub popped_frame : (b : Builder) (es : List Frame) (e : Option Frame) → IsSite b → b.stack.items ≡ es ++ option_to_list e → IfSome e (IsFrame b.ledger)
popped_frame b es e is stack = (All-pop (IsFrame b.ledger) b.stack.items es e stack is.stack).1

pub popped_mass : (es ds : List Frame) (e : Frame) → es ≡ ds ++ option_to_list (Some e) → stack_mass es ≡ stack_mass ds + frame_mass e
popped_mass es ds e stack = ap stack_mass stack ∙ mass_push ds e

pub popped_room : (es ds : List Frame) (e : Frame) → es ≡ ds ++ option_to_list (Some e) → stack_room es ≡ stack_room ds + frame_room e
popped_room es ds e stack = ap stack_room stack ∙ room_push ds e

pub popped_none : (es ds : List Frame) → es ≡ ds ++ option_to_list None → stack_room ds ≡ stack_room es
popped_none es ds stack = ap stack_room (sym (stack ∙ append-nil ds))

-- the task that was entered may start
pub entered_starts : (l m : Ledger) (t : Task) (n params : ℕ) → m.tables.names ≡ l.tables.names ++ t ∷ [] → n ≡ length l.tables.names
    → length t.args ≡ params → MayStart m n params
entered_starts l m t n params names number takes = record {
  inside = let size : length m.tables.names ≡ length l.tables.names + 1 = ap length names ∙ length-append l.tables.names (t ∷ []) in omega (arith, size, number);
  takes = subst (λ (o : Option Task). IfSome o (λ (u : Task). length u.args ≡ params)) (sym named) takes;
}
  where
    named : slice_get m.tables.names n ≡ Some t
    named = ap (λ (ts : List Task). slice_get ts n) names ∙ ap (slice_get (l.tables.names ++ t ∷ [])) number ∙ at
      where
        at : slice_get (l.tables.names ++ t ∷ []) (length l.tables.names) ≡ Some t
        at = let size : length (l.tables.names ++ t ∷ []) ≡ length l.tables.names + 1 = length-append l.tables.names (t ∷ []) in
            slice_get-get_or (l.tables.names ++ t ∷ []) (length l.tables.names) t (omega (arith, size))
            ∙ ap Some (get_or-append_seam l.tables.names t [] t)
