-- Which offers of a task were tried, step by step.
use Rattle.std.proofs.Common.{◌≡◌, ℕ, zero, suc, ◌<◌, false, List, [], ◌∷◌, ◌++◌, Option, None, Some, Box, Vec, Bor, Result, Ok, Err, length, map, take, get_or, refl, sym, ap, subst, ◌∙◌, inl, inr, arith}
use Rattle.std.specs.declared.alloc.Global.{Global}
use Rattle.std.specs.Prelude.{slice_get, IfOk, IfSome, OnOk}
use Rattle.std.specs.Option.{option_map_or}
use Rattle.std.specs.BTreeMap.{get_by_text}
use Rattle.std.specs.List.{All}
use Rattle.std.proofs.lemmas.List.{append_assoc, append-nil}
use Rattle.std.proofs.lemmas.List.Elements.{All-append, All-cons, All-head, All-map, All-nil, All-pop, All-push, All-tail}
use Rattle.pie_value.specs.declared.task.Task.{Task}
use Rattle.pie_files.specs.Directory.{Directory}
use Rattle.pie_code.specs.declared.code.Code.{Code}
use Rattle.pie_graph.specs.declared.edges.TaskNo.{TaskNo}
use Rattle.pie_running.specs.declared.frame.Caller.{Caller}
use Rattle.pie_store.specs.declared.offers.Offer.{Offer}
use Rattle.pie_store.specs.inner.Offers.{Offered, offered}
use Rattle.pie_builder_laws.specs.Names.{AreTasks}
use Rattle.pie_core_laws.specs.Update.{Update}
use Rattle.pie_topdown_result_laws.specs.Builds.{IsHonestTo, IsStanding}
use Rattle.pie_topdown.specs.declared.builder.Builder.{Builder}
use Rattle.pie_topdown.specs.declared.hand.Check.{Check}
use Rattle.pie_topdown.specs.declared.hand.Frame.{Frame}
use Rattle.pie_topdown.specs.declared.hand.Frame.TheVariants as frames
use Rattle.pie_topdown.specs.declared.hand.Hand.{Hand}
use Rattle.pie_topdown.specs.declared.hand.Hand.TheVariants as hands
use Rattle.pie_topdown.specs.declared.hand.Rest.TheVariants as rests
use Rattle.pie_topdown.specs.declared.hand.Turn.{Turn}
use Rattle.pie_topdown.specs.declared.hand.Turn.TheVariants.{Goes, Rests, Many, Fails}
use Rattle.pie_topdown.specs.inner.Marks.{StaysMarked, RunsOne}
use Rattle.pie_topdown.specs.inner.Offering.{FitsSo, Takes}
use Rattle.pie_topdown.specs.inner.Right.{AreOffersHonest}
use Rattle.pie_topdown.specs.inner.Trying.{offers_to, AsksFor, AreHonestTo, NoneStands, HasTried, IsTriedBy, IsTriedCheck, IsTriedFrame, IsTriedTurn, AreTried, LeavesTried, TriesFrom, TriesOffers, ChecksTried, GivesWay, DiffersTried, HoldsTried, WaitsTried}
use Rattle.pie_topdown.specs.inner.Unoffered.{ComparesNothing, GoesMarked, IsNoCheck}
use Rattle.pie_topdown.proofs.Marking.{stays_none, tried_after}
use Rattle.pie_topdown.proofs.Honest.{honest_offers, passed_over}
use Rattle.pie_topdown.proofs.Tried.{behind, each_mapped}

one_some : {A : Type 0} (x y : A) → Some x ≡ Some y → x ≡ y
one_some x y e = cc

-- ---- turns

hand_tried : (u : Update) (offers : Task → List Offered) (h : Hand) → IsNoCheck h → IsTriedTurn u offers (Goes h)
hand_tried u offers (hands.Enters n code) none = tt
hand_tried u offers (hands.Checks c) none = absurd none
hand_tried u offers (hands.Runs f) none = tt
hand_tried u offers hands.Ended none = tt

pub turn_tried : (u : Update) (offers : Task → List Offered) (t : Turn) → ComparesNothing t → IsTriedTurn u offers t
turn_tried u offers (Goes h) none = hand_tried u offers h none
turn_tried u offers Rests none = tt
turn_tried u offers Many none = tt
turn_tried u offers Fails none = tt

-- ---- single calls

pub same_tried : (u : Update) (offers : Task → List Offered) (b c : Builder) → c.stack.items ≡ b.stack.items → AreTried u offers b → AreTried u offers c
same_tried u offers b c stack tried = subst (All (IsTriedFrame u offers)) (sym stack) tried

-- what waits stays, and nothing is compared
pub holds_tried : (b c : Builder) (t : Turn) → c.stack.items ≡ b.stack.items → ComparesNothing t → HoldsTried b c t
holds_tried b c t stack none = λ u offers tried. record { stack = same_tried u offers b c stack tried; turn = turn_tried u offers t none }

pub goes_tried : (b c : Builder) (t : Turn) → GoesMarked b c t → HoldsTried b c t
goes_tried b c t g = λ u offers tried. record { stack = g.tried u offers tried; turn = turn_tried u offers t g.turn }

-- ---- what waits

pub pushed_tried : (u : Update) (offers : Task → List Offered) (b c : Builder) (e : Frame) → c.stack.items ≡ b.stack.items ++ e ∷ [] → IsTriedFrame u offers e
    → AreTried u offers b → AreTried u offers c
pushed_tried u offers b c e stack this tried =
    subst (All (IsTriedFrame u offers)) (sym stack) (All-push (IsTriedFrame u offers) b.stack.items e tried this)

pub popped_tried : (u : Update) (offers : Task → List Offered) (b c : Builder) (e : Frame) → b.stack.items ≡ c.stack.items ++ e ∷ [] → AreTried u offers b
    → AreTried u offers c × IsTriedFrame u offers e
popped_tried u offers b c e stack tried = All-pop (IsTriedFrame u offers) b.stack.items c.stack.items (Some e) stack tried

-- a check goes on
pub check_popped : (b c : Builder) (x : Box Check Global) → b.stack.items ≡ c.stack.items ++ frames.Checks x ∷ [] → HoldsTried b c (Goes (hands.Checks x))
check_popped b c x stack = λ u offers tried.
    let p = popped_tried u offers b c (frames.Checks x) stack tried in
    record { stack = p.0; turn = p.1 }

-- a task that runs does
pub caller_popped : {E : Type 0} (b mid c : Builder) (x : Caller) (result : Result Turn E) → b.stack.items ≡ mid.stack.items ++ frames.Waits x ∷ []
    → IfOk result (GoesMarked mid c) → IfOk result (HoldsTried b c)
caller_popped {E} b mid c x result stack = by result
  where
    by : (r : Result Turn E) → IfOk r (GoesMarked mid c) → IfOk r (HoldsTried b c)
    by (Ok t) g = λ u offers tried. goes_tried mid c t g u offers (popped_tried u offers b mid (frames.Waits x) stack tried).0
    by (Err e) g = tt

-- nothing waits
pub none_popped : (b c : Builder) → length c.stack.items ≡ 0 → HoldsTried b c Rests
none_popped b c none = λ u offers tried. record { stack = by u offers c.stack.items none; turn = tt }
  where
    by : (u : Update) (offers : Task → List Offered) (es : List Frame) → length es ≡ 0 → All (IsTriedFrame u offers) es
    by u offers [] e = All-nil (IsTriedFrame u offers)
    by u offers (x ∷ es) e = absurd (omega (arith, e))

-- a check waits for a task that was entered
pub check_waits : (b mid c : Builder) (x : Box Check Global) (n : TaskNo) (code : Bor Code) → mid.stack.items ≡ b.stack.items
    → c.stack.items ≡ mid.stack.items ++ frames.Checks x ∷ [] → WaitsTried b x.value c (Goes (hands.Enters n code))
check_waits b mid c x n code same stack = λ u offers tried this.
    record { stack = pushed_tried u offers mid c (frames.Checks x) stack this (same_tried u offers b mid same tried); turn = tt }

-- a check by its parts
pub same_check : (u : Update) (offers : Task → List Offered) (x y : Check) → y.rec ≡ x.rec → y.contents ≡ x.contents → y.rest ≡ x.rest
    → IsTriedCheck u offers x → IsTriedCheck u offers y
same_check u offers x y rec contents rest tried =
    subst (λ r. IsTriedBy u offers r y.contents y.rest) (sym rec)
    (subst (λ o. IsTriedBy u offers x.rec o y.rest) (sym contents)
    (subst (IsTriedBy u offers x.rec x.contents) (sym rest) tried))

-- it goes on as it is
pub check_passed : (b : Builder) (c : Check) (x : Box Check Global) → x.value.rec ≡ c.rec → x.value.contents ≡ c.contents → x.value.rest ≡ c.rest
    → WaitsTried b c b (Goes (hands.Checks x))
check_passed b c x rec contents rest = λ u offers tried this. record { stack = tried; turn = same_check u offers c x.value rec contents rest this }

-- the store's own record is checked before offers are asked for
pub own_tried : (u : Update) (offers : Task → List Offered) (c : Check) → c.contents ≡ None → c.rest ≡ rests.Unasked → IsTriedCheck u offers c
own_tried u offers c contents rest =
    subst (λ o. IsTriedBy u offers c.rec o c.rest) (sym contents) (subst (IsTriedBy u offers c.rec None) (sym rest) tt)

-- ---- offers in order

front : {A : Type 0} (P : A → Type 0) (xs ys : List A) → All P (xs ++ ys) → All P xs
front P [] ys h = All-nil P
front P (x ∷ xs) ys h = All-cons P x xs (All-head P x (xs ++ ys) h) (front P xs ys (All-tail P x (xs ++ ys) h))

map_append : {A B : Type 0} (f : A → B) (xs ys : List A) → map f (xs ++ ys) ≡ map f xs ++ map f ys
map_append f [] ys = refl
map_append f (x ∷ xs) ys = ap (λ zs. f x ∷ zs) (map_append f xs ys)

module _ (u : Update) (b : Builder) (n : ℕ) (task : Task) (offers : Task → List Offered) (old : List Offer) (honest : AreHonestTo u offers)
    (are : AreTasks b.ledger.tables.names) (named : slice_get b.ledger.tables.names n ≡ Some task) (has : HasTried u task (offers task) (map offered old)) where
  -- they are honest
  honest_left : All (λ o. IsHonestTo u task (offered o)) old
  honest_left =
      each_mapped (IsHonestTo u task) offered old
      (behind (IsHonestTo u task) has.over (map offered old) (subst (All (IsHonestTo u task)) has.is (honest task)))

  -- those that are passed over don't stand
  over_none : (over left : List Offer) → old ≡ over ++ left → All (λ o. FitsSo b n o false) over → All (λ o. IsStanding u task (offered o) → ⊥) over
  over_none over left same fits = λ i d l.
      passed_over u b n task (get_or over i d) are named
      (front (λ o. IsHonestTo u task (offered o)) over left (subst (All (λ o. IsHonestTo u task (offered o))) same honest_left) i d l) (fits i d l)

  -- so those after them are the next
  tried_past : (over left : List Offer) → old ≡ over ++ left → All (λ o. FitsSo b n o false) over → HasTried u task (offers task) (map offered left)
  tried_past over left same fits = record {
    over = has.over ++ map offered over;
    is = has.is ∙ ap (λ os. has.over ++ map offered os) same ∙ ap (λ os. has.over ++ os) (map_append offered over left)
        ∙ sym (append_assoc has.over (map offered over) (map offered left));
    none = All-append (λ o. IsStanding u task o → ⊥) has.over (map offered over) has.none
        (All-map (λ o. IsStanding u task o → ⊥) offered over (over_none over left same fits));
  }

  -- where all are passed over, none stands
  all_over : All (λ o. FitsSo b n o false) old → NoneStands u offers task
  all_over fits =
      subst (All (λ o. IsStanding u task o → ⊥)) (sym has.is)
      (All-append (λ o. IsStanding u task o → ⊥) has.over (map offered old) has.none
      (All-map (λ o. IsStanding u task o → ⊥) offered old (over_none old [] (sym (append-nil old)) fits)))

-- ---- an entered task is checked against the next of its offers, or runs

pub offer_tried : (b : Builder) (n : ℕ) (offer : Offer) (rest : Vec Offer Global) (c : Box Check Global) → c.value.rec ≡ offer.row
    → c.value.contents ≡ Some offer.contents → c.value.rest ≡ rests.Asked rest → ChecksTried b n offer rest.items (Goes (hands.Checks c))
offer_tried b n offer rest c rec contents more = λ u offers named once has.
    subst (λ r. IsTriedBy u offers r c.value.contents c.value.rest) (sym rec)
    (subst (λ o. IsTriedBy u offers offer.row o c.value.rest) (sym contents)
    (subst (IsTriedBy u offers offer.row (Some offer.contents)) (sym more) (once, has)))

pub check_tried : {E : Type 0} (b : Builder) (n : ℕ) (old after : List Offer) (o : Box Offer Global) (runs : List Task) (r : Result Turn E)
    → Takes b n old after (Some o) → IfOk r (ChecksTried b n o.value after) → IfOk r (TriesOffers b n old b runs runs)
check_tried b n old after o runs (Err x) takes checks = tt
check_tried b n old after o runs (Ok t) takes checks = λ u offers task honest are named has tried.
    let its : task ≡ o.value.row.task = one_some task o.value.row.task (sym named ∙ takes.3.0) in
    let next = tried_past u b n task offers old honest are named has takes.0 (o.value ∷ after) takes.1 takes.2 in
    record {
      stays = record {
        stack = tried;
        turn = checks u offers takes.3.0 takes.3.1 (subst (λ x. HasTried u x (offers x) (map offered (o.value ∷ after))) its next);
      };
      marks = inl (refl, inl (stays_none b));
    }

pub start_tried : {E : Type 0} (b new : Builder) (n : ℕ) (old after : List Offer) (runs later : List Task) (r : Result Turn E) → Takes b n old after None
    → OnOk r (RunsOne b n new runs later) → IfOk r (HoldsTried b new) → IfOk r (TriesOffers b n old new runs later)
start_tried b new n old after runs later (Err x) takes one holds = tt
start_tried b new n old after runs later (Ok t) takes one holds = λ u offers task honest are named has tried. record {
  stays = holds u offers tried;
  marks = inr (record {
    one = one;
    none = subst (NoneStands u offers) (one_some task one.marks.task (sym named ∙ one.marks.named))
        (all_over u b n task offers old honest are named has takes);
  });
}

-- its offers are asked for
inside_named : (names : List Task) (n : ℕ) → n < length names → (t : Task) × (slice_get names n ≡ Some t)
inside_named [] n l = absurd (omega (arith, l))
inside_named (t ∷ names) zero l = (t, refl)
inside_named (t ∷ names) (suc n) l = inside_named names n (omega (arith, l))

pub ask_tried : {E : Type 0} (held : Option Directory) (told : Directory → Task → List ℕ → List Offered) (b new : Builder) (n : ℕ) (found : List Offer)
    (runs later : List Task) (r : Result Turn E) → n < length b.ledger.tables.names → AsksFor held told b n found
    → IfOk r (TriesOffers b n found new runs later) → IfOk r (TriesFrom held told b n new runs later)
ask_tried held told b new n found runs later (Err x) inside asks tries = tt
ask_tried held told b new n found runs later (Ok t) inside asks tries = λ u holds honest are tried.
    let t = inside_named b.ledger.tables.names n inside in
    tries u (offers_to b.plan told u.directory) t.0 (honest_offers u b.plan told honest) are t.1 (record {
      over = [];
      is = sym (asks u.directory t.0 holds t.1);
      none = All-nil (λ o. IsStanding u t.0 o → ⊥);
    }) tried

-- these are asked for
pub some_asked : (held : Option Directory) (told : Directory → Task → List ℕ → List Offered) (b : Builder) (at : ℕ) (t : Task) (digest : List ℕ)
    (all found : List Offer) → slice_get b.ledger.tables.names at ≡ Some t → get_by_text b.plan.digests t.func ≡ Some digest
    → IfSome held (λ d. map offered all ≡ told d t digest) → found ≡ take 4 all → AsksFor held told b at found
some_asked held told b at t digest all found named has is some = λ d task holds here.
    let its : t ≡ task = one_some t task (sym named ∙ here) in
    ap (map offered) some ∙ map_take offered 4 all ∙ ap (take 4) (subst (λ h. IfSome h (λ d. map offered all ≡ told d t digest)) holds is)
    ∙ ap (λ o. option_map_or (λ h. take 4 (told d t h)) o []) (sym has)
    ∙ ap (offers_to b.plan told d) its
  where
    map_take : {A B : Type 0} (f : A → B) (n : ℕ) (xs : List A) → map f (take n xs) ≡ take n (map f xs)
    map_take f zero xs = refl
    map_take f (suc n) [] = refl
    map_take f (suc n) (x ∷ xs) = ap (λ zs. f x ∷ zs) (map_take f n xs)

pub none_asked : (held : Option Directory) (told : Directory → Task → List ℕ → List Offered) (b : Builder) (at : ℕ) (t : Task) (found : List Offer)
    → slice_get b.ledger.tables.names at ≡ Some t → get_by_text b.plan.digests t.func ≡ None → found ≡ [] → AsksFor held told b at found
none_asked held told b at t found named has none = λ d task holds here.
    ap (map offered) none ∙ ap (λ o. option_map_or (λ h. take 4 (told d t h)) o []) (sym has)
    ∙ ap (offers_to b.plan told d) (one_some t task (sym named ∙ here))

-- ---- something was asked of the files before

pub leaves_after : (u : Update) (offers : Task → List Offered) (a b c : Builder) (n : ℕ) (t : Turn) (runs later : List Task) → StaysMarked a b
    → b.ledger.tables.names ≡ a.ledger.tables.names → LeavesTried u offers b n c t runs later → LeavesTried u offers a n c t runs later
leaves_after u offers a b c n t runs later s names l = record { stays = l.stays; marks = tried_after u offers a b c n runs later s names l.marks }

pub from_after : {E : Type 0} (held later : Option Directory) (told : Directory → Task → List ℕ → List Offered) (a b c : Builder) (n : ℕ) (before after : List Task)
    (r : Result Turn E) → later ≡ held → b ≡ record a { named = b.named } → StaysMarked a b → IfOk r (TriesFrom later told b n c before after)
    → IfOk r (TriesFrom held told a n c before after)
from_after held later told a b c n before after (Err x) same is s tries = tt
from_after held later told a b c n before after (Ok t) same is s tries = λ u holds honest are tried.
    let plan = ap (λ x. x.plan) is in
    let names = ap (λ x. x.ledger.tables.names) is in
    leaves_after u (offers_to a.plan told u.directory) a b c n t before after s names
    (subst (λ p. LeavesTried u (offers_to p told u.directory) b n c t before after) plan
    (tries u (same ∙ holds) (subst (λ p. AreOffersHonest u p told) (sym plan) honest) (subst AreTasks (sym names) are)
    (subst (λ p. AreTried u (offers_to p told u.directory) b) (sym plan)
    (same_tried u (offers_to a.plan told u.directory) a b (ap (λ x. x.stack.items) is) tried))))

-- its own record is checked
pub own_from : (held : Option Directory) (told : Directory → Task → List ℕ → List Offered) (a b : Builder) (n : ℕ) (c : Box Check Global) (runs : List Task)
    → b ≡ record a { named = b.named } → StaysMarked a b → c.value.contents ≡ None → c.value.rest ≡ rests.Unasked
    → TriesFrom held told a n b runs runs (Goes (hands.Checks c))
own_from held told a b n c runs is s contents rest = λ u holds honest are tried. record {
  stays = record {
    stack = same_tried u (offers_to a.plan told u.directory) a b (ap (λ x. x.stack.items) is) tried;
    turn = own_tried u (offers_to a.plan told u.directory) c.value contents rest;
  };
  marks = inl (refl, inl s);
}

-- ---- a record gives way

pub unasked_tried : {E : Type 0} (held : Option Directory) (told : Directory → Task → List ℕ → List Offered) (b new : Builder) (c : Check) (runs later : List Task)
    (r : Result Turn E) → IfOk r (TriesFrom held told b c.no.0 new runs later) → IfOk r (DiffersTried held told b c new runs later)
unasked_tried held told b new c runs later (Err x) tries = tt
unasked_tried held told b new c runs later (Ok t) tries = λ u holds honest are gives tried this. tries u holds honest are tried

pub asked_tried : {E : Type 0} (held : Option Directory) (told : Directory → Task → List ℕ → List Offered) (b new : Builder) (c : Check) (rest : Vec Offer Global)
    (runs later : List Task) (r : Result Turn E) → c.rest ≡ rests.Asked rest → slice_get b.ledger.tables.names c.no.0 ≡ Some c.rec.task
    → IfOk r (TriesOffers b c.no.0 rest.items new runs later) → IfOk r (DiffersTried held told b c new runs later)
asked_tried held told b new c rest runs later (Err x) is named tries = tt
asked_tried held told b new c rest runs later (Ok t) is named tries = λ u holds honest are gives tried this.
    let offers = offers_to b.plan told u.directory in
    tries u offers c.rec.task (honest_offers u b.plan told honest) are named
    (by u offers gives c.contents (subst (IsTriedBy u offers c.rec c.contents) is this)) tried
  where
    by : (u : Update) (offers : Task → List Offered) → GivesWay u c → (o : Option (Vec (Vec ℕ Global) Global)) → IsTriedBy u offers c.rec o (rests.Asked rest)
        → HasTried u c.rec.task (offers c.rec.task) (map offered rest.items)
    by u offers gives None h = absurd h
    by u offers gives (Some contents) h =
        let this : Offered = (c.rec, map (λ (v : Vec ℕ Global). v.items) contents.items) in
        record {
          over = h.1.over ++ this ∷ [];
          is = h.1.is ∙ sym (append_assoc h.1.over (this ∷ []) (map offered rest.items));
          none = All-push (λ o. IsStanding u c.rec.task o → ⊥) h.1.over this h.1.none (λ s. gives s.is);
        }
