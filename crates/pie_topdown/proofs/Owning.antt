-- Where nothing is offered, each record that is checked is its task's own, and none is reused.
use Rattle.std.proofs.Common.{◌≡◌, ℕ, zero, suc, List, [], ◌∷◌, ◌++◌, length, Option, None, Some, Result, Ok, Err, Box, Bor, Vec, map, take, refl, sym, ap, subst, ◌∙◌, arith}
use Rattle.std.specs.declared.alloc.Global.{Global}
use Rattle.std.specs.Prelude.{IfOk, IfSome}
use Rattle.std.specs.List.{All}
use Rattle.std.proofs.lemmas.List.{append-nil}
use Rattle.std.proofs.lemmas.List.Elements.{All-nil, All-pop, All-push}
use Rattle.pie_value.specs.declared.task.Task.{Task}
use Rattle.pie_files.specs.Directory.{Directory}
use Rattle.pie_code.specs.declared.code.Code.{Code}
use Rattle.pie_graph.specs.Numbers.{numbers}
use Rattle.pie_graph.specs.declared.edges.TaskNo.{TaskNo}
use Rattle.pie_old.specs.inner.Rows.{tasks_at}
use Rattle.pie_running.specs.declared.frame.Caller.{Caller}
use Rattle.pie_running.specs.declared.frame.RunningTask.{RunningTask}
use Rattle.pie_store.specs.declared.offers.Offer.{Offer}
use Rattle.pie_store.specs.inner.Offers.{Offered, offered}
use Rattle.pie_topdown.specs.declared.builder.Builder.{Builder}
use Rattle.pie_topdown.specs.declared.hand.Check.{Check}
use Rattle.pie_topdown.specs.declared.hand.Frame.{Frame}
use Rattle.pie_topdown.specs.declared.hand.Frame.TheVariants as frames
use Rattle.pie_topdown.specs.declared.hand.Hand.{Hand}
use Rattle.pie_topdown.specs.declared.hand.Hand.TheVariants as hands
use Rattle.pie_topdown.specs.declared.hand.Rest.TheVariants as rests
use Rattle.pie_topdown.specs.declared.hand.Turn.{Turn}
use Rattle.pie_topdown.specs.declared.hand.Turn.TheVariants.{Goes, Rests, Many, Fails}
use Rattle.pie_topdown.specs.inner.Offering.{Takes}
use Rattle.pie_topdown.specs.inner.Marks.{StaysMarked}
use Rattle.pie_topdown.specs.inner.Ran.{AddsNamed}
use Rattle.pie_topdown.specs.inner.Rooted.{IsUnbegun}
use Rattle.pie_topdown.specs.inner.Unoffered.{ComparesNothing, IsNoCheck, OffersNothing, HasNoOffers, IsOwnCheck, IsOwnFrame, IsOwnHand, IsOwnTurn, AreOwn, GoesMarked, HoldsOwn, BeginsOwn, ChecksOwn, StepsOwn, StaysOwnSo, RunsOwn, EndsOwn}
use Rattle.pie_topdown.proofs.Marking.{stays_same, stays_then}
use Rattle.pie_topdown.proofs.Trying.{pushed_tried, same_tried}

-- ---- single calls

pub same_own : (b c : Builder) → c.stack.items ≡ b.stack.items → AreOwn b → AreOwn c
same_own b c stack own = subst (All IsOwnFrame) (sym stack) own

pub pushed_own : (b c : Builder) (e : Frame) → c.stack.items ≡ b.stack.items ++ e ∷ [] → IsOwnFrame e → AreOwn b → AreOwn c
pushed_own b c e stack this own = subst (All IsOwnFrame) (sym stack) (All-push IsOwnFrame b.stack.items e own this)

-- nothing is compared, and what waits stays
pub goes_marked : (b c : Builder) (t : Turn) → StaysMarked b c → c.stack.items ≡ b.stack.items → ComparesNothing t → GoesMarked b c t
goes_marked b c t marks stack turn = record {
  marks = marks;
  stack = same_own b c stack;
  tried = λ u offers. same_tried u offers b c stack;
  turn = turn;
}

-- after something that leaves what waits
pub goes_after : (a b c : Builder) (t : Turn) → StaysMarked a c → b.stack.items ≡ a.stack.items → GoesMarked b c t → GoesMarked a c t
goes_after a b c t marks stack g = record {
  marks = marks;
  stack = λ own. g.stack (same_own a b stack own);
  tried = λ u offers so. g.tried u offers (same_tried u offers a b stack so);
  turn = g.turn;
}

-- after something that changes neither records nor what waits
pub goes_on_after : {E : Type 0} (a b c : Builder) (r : Result Turn E) → b.ledger ≡ a.ledger → b.reused ≡ a.reused → b.stack ≡ a.stack
    → IfOk r (GoesMarked b c) → IfOk r (GoesMarked a c)
goes_on_after a b c (Err e) ledger reused stack goes = tt
goes_on_after a b c (Ok t) ledger reused stack goes =
    goes_after a b c t (stays_then a b c (stays_same a b ledger reused) goes.marks) (ap (λ v. v.items) stack) goes

-- a caller waits
pub goes_waiting : (b mid c : Builder) (x : Caller) (n : TaskNo) (code : Bor Code) → StaysMarked b c → mid.stack.items ≡ b.stack.items
    → c.stack.items ≡ mid.stack.items ++ frames.Waits x ∷ [] → GoesMarked b c (Goes (hands.Enters n code))
goes_waiting b mid c x n code marks same stack = record {
  marks = marks;
  stack = λ own. pushed_own mid c (frames.Waits x) stack tt (same_own b mid same own);
  tried = λ u offers so. pushed_tried u offers mid c (frames.Waits x) stack tt (same_tried u offers b mid same so);
  turn = tt;
}

own_hand : (h : Hand) → IsNoCheck h → IsOwnHand h
own_hand (hands.Enters n code) none = tt
own_hand (hands.Checks c) none = absurd none
own_hand (hands.Runs f) none = tt
own_hand hands.Ended none = tt

own_turn : (t : Turn) → ComparesNothing t → IsOwnTurn t
own_turn (Goes h) none = own_hand h none
own_turn Rests none = tt
own_turn Many none = tt
own_turn Fails none = tt

pub holds_goes : (b c : Builder) (t : Turn) → GoesMarked b c t → HoldsOwn b c t
holds_goes b c t g = λ own. record { stack = g.stack own; turn = own_turn t g.turn; reused = g.marks.reused }

pub holds_here : (b c : Builder) (t : Turn) → c.stack.items ≡ b.stack.items → c.reused.items ≡ b.reused.items → IsOwnTurn t → HoldsOwn b c t
holds_here b c t stack reused turn = λ own. record { stack = same_own b c stack own; turn = turn; reused = reused }

-- ---- a check

-- what was told of files and offers is told of them still
pub offers_still : (held later : Option Directory) (told after : Directory → Task → List ℕ → List Offered) → later ≡ held → after ≡ told
    → OffersNothing held told → OffersNothing later after
offers_still held later told after same same_told o = record {
  directory = o.directory;
  is = same ∙ o.is;
  none = λ t digest. ap (λ f. f o.directory t digest) same_told ∙ o.none t digest;
}

pub own_check : (c : Check) → c.contents ≡ None → c.rest ≡ rests.Unasked → IsOwnCheck c
own_check c own rest = record { own = own; rest = subst HasNoOffers (sym rest) tt }

-- no offered record is an own one
pub never_offered : {A : Type 0} (c : Check) (contents : Vec (Vec ℕ Global) Global) → c.contents ≡ Some contents → IsOwnCheck c → A
never_offered c contents is this = absurd (never (sym is ∙ this.own))
  where
    never : Some contents ≡ None → ⊥
    never e = cc

-- with what is offered there is nothing to try
pub nothing_taken : {A : Type 0} (b : Builder) (n : ℕ) (before after : List Offer) (o : Box Offer Global) → Takes b n before after (Some o) → before ≡ [] → A
nothing_taken b n before after o takes none = absurd (by takes.0 (sym takes.1 ∙ none))
  where
    by : (over : List Offer) → over ++ o.value ∷ after ≡ [] → ⊥
    by [] e = cc
    by (x ∷ over) e = cc

module _ (held : Option Directory) (told : Directory → Task → List ℕ → List Offered) {E : Type 0} (b c : Builder) (result : Result Turn E) where
  pub begins_checks : (x : Check) → IfOk result (BeginsOwn held told b c) → IfOk result (ChecksOwn held told b x c)
  begins_checks x = by result
    where
      by : (r : Result Turn E) → IfOk r (BeginsOwn held told b c) → IfOk r (ChecksOwn held told b x c)
      by (Ok t) s = λ o own this. s o own
      by (Err e) s = tt

  pub begins_steps : (n : TaskNo) (code : Bor Code) → IfOk result (BeginsOwn held told b c) → IfOk result (StepsOwn held told b (hands.Enters n code) c)
  begins_steps n code = by result
    where
      by : (r : Result Turn E) → IfOk r (BeginsOwn held told b c) → IfOk r (StepsOwn held told b (hands.Enters n code) c)
      by (Ok t) s = λ o own this. s o own
      by (Err e) s = tt

  pub goes_steps : (f : RunningTask) → IfOk result (GoesMarked b c) → IfOk result (StepsOwn held told b (hands.Runs f) c)
  goes_steps f = by result
    where
      by : (r : Result Turn E) → IfOk r (GoesMarked b c) → IfOk r (StepsOwn held told b (hands.Runs f) c)
      by (Ok t) g = λ o own this. holds_goes b c t g own
      by (Err e) g = tt

  -- something was asked of the files before
  pub begins_after : (later : Option Directory) → later ≡ held → (a : Builder) → b.stack.items ≡ a.stack.items → b.reused.items ≡ a.reused.items
      → IfOk result (BeginsOwn later told b c) → IfOk result (BeginsOwn held told a c)
  begins_after later same a stack reused = by result
    where
      by : (r : Result Turn E) → IfOk r (BeginsOwn later told b c) → IfOk r (BeginsOwn held told a c)
      by (Ok t) s = λ o own.
          let k = s (offers_still held later told told same refl o) (same_own a b stack own) in
          record { stack = k.stack; turn = k.turn; reused = k.reused ∙ reused }
      by (Err e) s = tt

  pub checks_after : (later : Option Directory) → later ≡ held → (a : Builder) (x y : Check) → b.stack.items ≡ a.stack.items → b.reused.items ≡ a.reused.items
      → y.contents ≡ x.contents → y.rest ≡ x.rest → IfOk result (ChecksOwn later told b y c) → IfOk result (ChecksOwn held told a x c)
  checks_after later same a x y stack reused contents rest = by result
    where
      by : (r : Result Turn E) → IfOk r (ChecksOwn later told b y c) → IfOk r (ChecksOwn held told a x c)
      by (Ok t) s = λ o own this.
          let k = s (offers_still held later told told same refl o) (same_own a b stack own)
          (record { own = contents ∙ this.own; rest = subst HasNoOffers (sym rest) this.rest }) in
          record { stack = k.stack; turn = k.turn; reused = k.reused ∙ reused }
      by (Err e) s = tt

-- ---- what waits

pub popped_own : (b c : Builder) (e : Frame) → b.stack.items ≡ c.stack.items ++ e ∷ [] → AreOwn b → AreOwn c × IsOwnFrame e
popped_own b c e stack own = All-pop IsOwnFrame b.stack.items c.stack.items (Some e) stack own

pub popped_holds : (b c : Builder) (x : Box Check Global) → b.stack.items ≡ c.stack.items ++ frames.Checks x ∷ [] → c.reused.items ≡ b.reused.items
    → HoldsOwn b c (Goes (hands.Checks x))
popped_holds b c x stack reused = λ own. let p = popped_own b c (frames.Checks x) stack own in record { stack = p.0; turn = p.1; reused = reused }

pub waited_holds : {E : Type 0} (b mid c : Builder) (x : Caller) (result : Result Turn E) → b.stack.items ≡ mid.stack.items ++ frames.Waits x ∷ []
    → mid.reused.items ≡ b.reused.items → IfOk result (GoesMarked mid c) → IfOk result (HoldsOwn b c)
waited_holds {E} b mid c x result stack reused = by result
  where
    by : (r : Result Turn E) → IfOk r (GoesMarked mid c) → IfOk r (HoldsOwn b c)
    by (Ok t) g = λ own.
        let s = holds_goes mid c t g (popped_own b mid (frames.Waits x) stack own).0 in
        record { stack = s.stack; turn = s.turn; reused = s.reused ∙ reused }
    by (Err e) g = tt

-- nothing waits
pub none_holds : (b c : Builder) → length c.stack.items ≡ 0 → c.reused.items ≡ b.reused.items → HoldsOwn b c Rests
none_holds b c none reused = λ own. record { stack = by c.stack.items none; turn = tt; reused = reused }
  where
    by : (es : List Frame) → length es ≡ 0 → All IsOwnFrame es
    by [] e = All-nil IsOwnFrame
    by (x ∷ es) e = absurd (omega (arith, e))

-- ---- many steps

module _ (held later : Option Directory) (told after : Directory → Task → List ℕ → List Offered) (same : later ≡ held) (same_told : after ≡ told)
    (first now next : Builder) (h hand : Hand) (t : Turn) (before : StaysOwnSo held told first h now hand) (step : StepsOwn later after now hand next t) where
  pub own_stepped : RunsOwn held told first h next
  own_stepped = λ o own this.
      let l = before o own this in
      let s = step (offers_still held later told after same same_told o) l.leaves.stack l.hand in
      record { stack = s.stack; reused = s.reused ∙ l.leaves.reused }

  pub own_on : (g : Hand) → t ≡ Goes g → StaysOwnSo held told first h next g
  own_on g is = λ o own this.
      let l = before o own this in
      let s = step (offers_still held later told after same same_told o) l.leaves.stack l.hand in
      record { leaves = own_stepped o own this; hand = subst IsOwnTurn is s.turn }

pub own_first : (held : Option Directory) (told : Directory → Task → List ℕ → List Offered) (b : Builder) (h : Hand) → StaysOwnSo held told b h b h
own_first held told b h = λ o own this. record { leaves = record { stack = own; reused = refl }; hand = this }

-- ---- roots

pub own_none : (held : Option Directory) (told : Directory → Task → List ℕ → List Offered) (b : Builder) → EndsOwn held told b b
own_none held told b = λ o own. record { stack = own; reused = refl }

-- a root that was entered is settled
pub own_root : (held : Option Directory) (told : Directory → Task → List ℕ → List Offered) (a b c d : Builder) (h : Hand) → b.stack.items ≡ a.stack.items
    → b.reused.items ≡ a.reused.items → IsOwnHand h → RunsOwn held told b h c → d.stack.items ≡ c.stack.items → d.reused.items ≡ c.reused.items
    → EndsOwn held told a d
own_root held told a b c d h stack reused this runs after left = λ o own.
    let l = runs o (same_own a b stack own) this in
    record { stack = same_own c d after l.stack; reused = left ∙ l.reused ∙ reused }

-- a root failed: nothing waits any more
pub own_fallen : (held : Option Directory) (told : Directory → Task → List ℕ → List Offered) (a b c d : Builder) (h : Hand) → b.stack.items ≡ a.stack.items
    → b.reused.items ≡ a.reused.items → IsOwnHand h → RunsOwn held told b h c → d.stack.items ≡ [] → d.reused.items ≡ c.reused.items → EndsOwn held told a d
own_fallen held told a b c d h stack reused this runs empty left = λ o own.
    let l = runs o (same_own a b stack own) this in
    record { stack = subst (All IsOwnFrame) (sym empty) (All-nil IsOwnFrame); reused = left ∙ l.reused ∙ reused }

-- one more root is settled
pub own_then : (held later : Option Directory) (told after : Directory → Task → List ℕ → List Offered) → later ≡ held → after ≡ told → (a b c : Builder)
    → EndsOwn held told a b → EndsOwn later after b c → EndsOwn held told a c
own_then held later told after same same_told a b c first more = λ o own.
    let l = first o own in
    let m = more (offers_still held later told after same same_told o) l.stack in
    record { stack = m.stack; reused = m.reused ∙ l.reused }

-- ---- the whole build

pub nothing_reused : (held : Option Directory) (told : Directory → Task → List ℕ → List Offered) (first last : Builder) (old new : List Task) → IsUnbegun first
    → EndsOwn held told first last → AddsNamed last (numbers last.reused.items) old new → OffersNothing held told → new ≡ old
nothing_reused held told first last old new un ends adds o =
    let own : AreOwn first = subst (All IsOwnFrame) (sym un.stack) (All-nil IsOwnFrame) in
    let none = (ends o own).reused ∙ un.reused in
    adds [] (ap (λ ns. tasks_at last.ledger.tables.names (numbers ns)) none) ∙ append-nil old

-- no offers are answered where none are told
pub none_answered : (offers : List Offer) (d : Directory) (t : Task) (digest : List ℕ) (told : Directory → Task → List ℕ → List Offered)
    → map offered offers ≡ told d t digest → told d t digest ≡ [] → offers ≡ []
none_answered [] d t digest told is none = refl
none_answered (o ∷ os) d t digest told is none = absurd (never (is ∙ none))
  where
    never : offered o ∷ map offered os ≡ [] → ⊥
    never e = cc

pub none_cut : (held : Option Directory) (told : Directory → Task → List ℕ → List Offered) (t : Task) (digest : List ℕ) (n : ℕ) (offers cut : List Offer)
    → IfSome held (λ d. map offered offers ≡ told d t digest) → cut ≡ take n offers → OffersNothing held told → cut ≡ []
none_cut held told t digest n offers cut answers is o =
    let here = subst (λ h. IfSome h (λ d. map offered offers ≡ told d t digest)) o.is answers in
    is ∙ none_left n offers (none_answered offers o.directory t digest told here (o.none t digest))
  where
    none_left : (n : ℕ) (os : List Offer) → os ≡ [] → take n os ≡ []
    none_left zero os e = refl
    none_left (suc n) [] e = refl
    none_left (suc n) (o ∷ os) e = absurd (never e)
      where
        never : o ∷ os ≡ [] → ⊥
        never e = cc
