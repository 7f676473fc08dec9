-- What was started and reused since the beginning, from step to step and from root to root.
use Rattle.std.proofs.Common.{◌≡◌, ◌⊎◌, ℕ, ◌+◌, ◌<◌, Bool, true, false, List, [], ◌∷◌, Option, None, Some, Bor, length, map, take, drop, get_or, refl, sym, ap, subst, ◌∙◌, inl, inr}
use Rattle.std.specs.Prelude.{slice_get, option_map, Contains}
use Rattle.std.specs.List.{All}
use Rattle.std.proofs.lemmas.List.Elements.{All-nil}
use Rattle.pie_value.specs.declared.task.Task.{Task}
use Rattle.pie_value.specs.declared.verdict.Refusal.{Refusal}
use Rattle.pie_value.specs.declared.verdict.Refusal.TheVariants.{Many}
use Rattle.pie_value.specs.Canonical.{enc_task, IsCanonicalTask}
use Rattle.pie_code.specs.declared.code.Code.{Code}
use Rattle.pie_files.specs.Directory.{Directory}
use Rattle.pie_graph.specs.declared.edges.TaskNo.{TaskNo}
use Rattle.pie_store.specs.inner.Offers.{Offered}
use Rattle.pie_model.specs.Paths.{among}
use Rattle.pie_model.proofs.Basics.{among_either, clash}
use Rattle.pie_step_laws.proofs.Tables.{among_one}
use Rattle.pie_model_pipeline.specs.Rows.{record_of}
use Rattle.pie_builder_laws.proofs.Naming.{among_at}
use Rattle.pie_builder_laws.proofs.Tabled.{record_by_number}
use Rattle.pie_core_laws.specs.Update.{Update}
use Rattle.pie_topdown.specs.declared.entering.Entry.TheVariants.{Unknown}
use Rattle.pie_topdown.specs.declared.builder.Builder.{Builder}
use Rattle.pie_topdown.specs.declared.hand.Hand.{Hand}
use Rattle.pie_topdown.specs.declared.hand.Hand.TheVariants as hands
use Rattle.pie_topdown.specs.inner.Entries.{HasEntered, MayBe, MayEnter}
use Rattle.pie_topdown.specs.inner.Frames.{IsSite}
use Rattle.pie_topdown.specs.inner.Marks.{StaysMarked, MarksBy}
use Rattle.pie_topdown.specs.inner.Ran.{FallsWhole, HasRunRefused, HasRunSo, RansOn, SettlesRan, StopsRan, HasSettledRan, SettlesAllRan, StopsAllRan}
use Rattle.pie_topdown.specs.inner.Roots.{IsSettledRoot}
use Rattle.pie_topdown.specs.inner.Right.{lost, names_of, AreWritten, EntersSite, HasEnteredAll, IsLost, IsPlanNow, IsRight}
use Rattle.pie_topdown.specs.inner.Rooted.{HasSettledRight, IsBuildOf, IsSettledSoFar, RunsOnRight, StaysRight, StopsRight}
use Rattle.pie_topdown.specs.declared.hand.Turn.{Turn}
use Rattle.pie_topdown.specs.declared.hand.Turn.TheVariants.{Goes}
use Rattle.pie_topdown.specs.inner.Trying.{offers_to, IsTriedFrame, IsTriedTurn, IsTriedSoFar, StaysTried, StaysTriedSo, StepsTried}
use Rattle.pie_topdown.specs.inner.Turns.{Keeps}
use Rattle.pie_topdown.proofs.Entered.{last_unrecorded}
use Rattle.pie_topdown.proofs.Keeping.{same_grows}
use Rattle.pie_topdown.proofs.Marking.{marks_one, ran_stays, stays_same}
use Rattle.pie_topdown.proofs.Rooting.{is_settled, lost_ends, lost_enters, rest_is_none, root_begins, stops, stops_fallen, stops_over, unfailed_written}
use Rattle.pie_topdown.proofs.Honest.{honest_offers}
use Rattle.pie_topdown.proofs.Turning.{build_then, listed, split}

never : {A : Type 0} (x : A) → None ≡ Some x → ⊥
never x e = cc

one_some : {A : Type 0} (x y : A) → Some x ≡ Some y → x ≡ y
one_some x y e = cc

one_refusal : (w : Refusal) → Some Many ≡ Some w → w ≡ Many
one_refusal w e = by (Many) w e
  where
    by : (x y : Refusal) → Some x ≡ Some y → y ≡ x
    by x y q = cc

-- ---- the steps of a root

-- a step, with what is in hand
hand_marks : (u : Update) (done : List (List ℕ)) (root : List ℕ) (held : Option Directory) (told : Directory → Task → List ℕ → List Offered) (b c : Builder) (h : Hand)
    (t : Turn) (first now after : List Task) → IsBuildOf u held told b.plan → Keeps b c → IsRight u done root b h → MarksBy b h c now after
    → StepsTried held told b h c now after t → IsTriedSoFar u (offers_to b.plan told u.directory) b h
    → HasRunSo u (offers_to b.plan told u.directory) b first now → HasRunSo u (offers_to b.plan told u.directory) c first after
hand_marks u done root held told b c (hands.Enters n code) t first now after of kept r m steps tried so =
    marks_one u (offers_to b.plan told u.directory) b c n.0 first now after kept.grows r.site.ledger.tasks r.hand.untouched.rested
    (steps u of.holds of.honest r.site.ledger.tasks tried.stack).marks so
hand_marks u done root held told b c (hands.Checks k) t first now after of kept r m steps tried so =
    marks_one u (offers_to b.plan told u.directory) b c k.value.no.0 first now after kept.grows r.site.ledger.tasks r.hand.may.untouched.rested
    (steps u done root r.fs of.holds of.plan of.honest r.site r.waiting r.hand tried.stack tried.hand).marks so
hand_marks u done root held told b c (hands.Runs f) t first now after of kept r m steps tried so =
    let offers = offers_to b.plan told u.directory in
    subst (HasRunSo u offers c first) (sym m.0) (ran_stays u offers b c first now kept.grows m.1 so)
hand_marks u done root held told b c hands.Ended t first now after of kept r m steps tried so =
    let offers = offers_to b.plan told u.directory in
    subst (HasRunSo u offers c first) (sym m.0) (ran_stays u offers b c first now kept.grows m.1 so)

-- what is tried is still
hand_stays : (u : Update) (done : List (List ℕ)) (root : List ℕ) (held : Option Directory) (told : Directory → Task → List ℕ → List Offered) (b c : Builder) (h : Hand)
    (t : Turn) (now after : List Task) → IsBuildOf u held told b.plan → IsRight u done root b h → StepsTried held told b h c now after t
    → IsTriedSoFar u (offers_to b.plan told u.directory) b h → StaysTried u (offers_to b.plan told u.directory) c t
hand_stays u done root held told b c (hands.Enters n code) t now after of r steps tried = (steps u of.holds of.honest r.site.ledger.tasks tried.stack).stays
hand_stays u done root held told b c (hands.Checks k) t now after of r steps tried =
    (steps u done root r.fs of.holds of.plan of.honest r.site r.waiting r.hand tried.stack tried.hand).stays
hand_stays u done root held told b c (hands.Runs f) t now after of r steps tried = steps u (offers_to b.plan told u.directory) tried.stack
hand_stays u done root held told b c hands.Ended t now after of r steps tried = steps u (offers_to b.plan told u.directory) tried.stack

pub tried_first : (held : Option Directory) (told : Directory → Task → List ℕ → List Offered) (b : Builder) (h : Hand) → StaysTriedSo held told b h b h
tried_first held told b h u done root of is tried = tried

pub ran_first : (held : Option Directory) (told : Directory → Task → List ℕ → List Offered) (b : Builder) (h : Hand) (runs : List Task) → RansOn held told b h b runs runs
ran_first held told b h runs u done root of is tried first so = so

-- the offers are those of the beginning
offers_still : (told later : Directory → Task → List ℕ → List Offered) (a b : Builder) → later ≡ told → b.plan ≡ a.plan → (d : Directory)
    → offers_to b.plan later d ≡ offers_to a.plan told d
offers_still told later a b same plan d = ap (λ p. offers_to p later d) plan ∙ ap (λ f. offers_to a.plan f d) same

-- over the same files
module _ (held mid : Option Directory) (told later : Directory → Task → List ℕ → List Offered) (a b c : Builder) (h g : Hand) (t : Turn)
    (before now after : List Task) (same : mid ≡ held) (same_told : later ≡ told) (plan : b.plan ≡ a.plan) (stays : StaysRight held told a h b g)
    (steps : StepsTried mid later b g c now after t) (tried : StaysTriedSo held told a h b g) where
  build_at : (u : Update) → IsBuildOf u held told a.plan → IsBuildOf u mid later b.plan
  build_at u of = build_then u held mid told later a.plan b.plan same same_told plan of

  offers_same : (u : Update) → offers_to b.plan later u.directory ≡ offers_to a.plan told u.directory
  offers_same u = offers_still told later a b same_told plan u.directory

  tried_at : (u : Update) (done : List (List ℕ)) (root : List ℕ) → IsBuildOf u held told a.plan → IsRight u done root a h
      → IsTriedSoFar u (offers_to a.plan told u.directory) a h → IsTriedSoFar u (offers_to b.plan later u.directory) b g
  tried_at u done root of is so = subst (λ o. IsTriedSoFar u o b g) (sym (offers_same u)) (tried u done root of is so)

  pub tried_on : (next : Hand) → t ≡ Goes next → StaysTriedSo held told a h c next
  tried_on next turn u done root of is so =
      let s = hand_stays u done root mid later b c g t now after (build_at u of) (stays u done root of is) steps (tried_at u done root of is so) in
      subst (λ o. IsTriedSoFar u o c next) (offers_same u)
      (record { stack = s.stack; hand = subst (IsTriedTurn u (offers_to b.plan later u.directory)) turn s.turn })

  pub ran_on : Keeps b c → MarksBy b g c now after → RansOn held told a h b before now → RansOn held told a h c before after
  ran_on kept marks sofar u done root of is so first ran =
      subst (λ o. HasRunSo u o c first after) (offers_same u)
      (hand_marks u done root mid later b c g t first now after (build_at u of) kept (stays u done root of is) marks steps (tried_at u done root of is so)
      (subst (λ o. HasRunSo u o b first now) (sym (offers_same u)) (sofar u done root of is so first ran)))

-- ---- a root

pub ran_nothing : (held : Option Directory) (told : Directory → Task → List ℕ → List Offered) (root : Task) (b : Builder) (runs : List Task) (why : Option Refusal)
    → SettlesRan held told b root b runs runs why
ran_nothing held told root b runs why u done of listed s first so none = so

-- one that failed says nothing
pub ran_refused : (held : Option Directory) (told : Directory → Task → List ℕ → List Offered) (a : Builder) (root : Task) (new : Builder) (before after : List Task)
    (why : Refusal) → SettlesRan held told a root new before after (Some why)
ran_refused held told a root new before after why u done of listed s first so none = absurd (never why (sym none))

-- the steps of a root that began
module _ (held : Option Directory) (told : Directory → Task → List ℕ → List Offered) (a b c : Builder) (t : Task) (code : Bor Code) (at : TaskNo)
    (before after : List Task) (rests : Bool) (number : at.0 ≡ length a.ledger.tables.names) (e : HasEntered a t b) (enters : EntersSite a t b)
    (may : MayBe a t code.now) (site : IsSite a) (absent : ¬ (Contains a.ledger.tables.names t)) (kept : Keeps a b) (marks : StaysMarked a b)
    (went : Keeps b c) (right : RunsOnRight held told b (hands.Enters at code) c rests) (runs : RansOn held told b (hands.Enters at code) c before after) where
  ends_so : (u : Update) (done : List (List ℕ)) → IsBuildOf u held told a.plan → among (enc_task t) u.roots ≡ true → IsSettledSoFar u done a
      → StopsRight u done (enc_task t) c rests
  ends_so = stops held told a b c t code at number e enters may site absent went rests right

  -- what ran until then
  ran_there : (u : Update) (done : List (List ℕ)) → IsBuildOf u held told a.plan → among (enc_task t) u.roots ≡ true → IsSettledSoFar u done a
      → (first : List Task) → HasRunSo u (offers_to a.plan told u.directory) a first before
      → HasRunSo u (offers_to a.plan told u.directory) (record c { failure = None }) first after
  ran_there u done of here s first so =
      let plan = ap (λ x. x.plan) e.rest in
      let offers = offers_to a.plan told u.directory in
      let then = offers_to b.plan told u.directory in
      let same : then ≡ offers = ap (λ p. offers_to p told u.directory) plan in
      ran_stays u offers c (record c { failure = None }) first after (same_grows c.ledger c.ledger refl refl)
      (stays_same c (record c { failure = None }) refl refl)
      (subst (λ o. HasRunSo u o c first after) same
      (runs u done (enc_task t) (build_then u held held told told a.plan b.plan refl refl plan of)
      (root_begins a b t code at number e enters may (last_unrecorded a.ledger site.ledger) absent u done of.plan here s)
      (record { stack = subst (All (IsTriedFrame u then)) (sym (ap (λ x. x.stack.items) e.rest ∙ s.free)) (All-nil (IsTriedFrame u then)); hand = tt }) first
      (subst (λ o. HasRunSo u o b first before) (sym same) (ran_stays u offers a b first before kept.grows marks so))))

  pub ran_root : (new : Builder) (why : Option Refusal) → new ≡ record c { failure = None } → SettlesRan held told a t new before after why
  ran_root new why is u done of here s first so none =
      subst (λ x. HasRunSo u (offers_to a.plan told u.directory) x first after) (sym is) (ran_there u done of here s first so)

  -- a task failed, and those of the checks that waited were started
  pub root_fails : (new : Builder) (later : List Task) (why : Refusal) → c.failure ≡ Some why → new.ledger.tables.names ≡ c.ledger.tables.names
      → FallsWhole (record c { failure = None }) new after later → StopsRan held told a t new before later (Some why)
  root_fails new later why failed names falls u done of here s first so w is =
      let f = stops_fallen u done (enc_task t) c rests why (ends_so u done of here s) failed in
      let plan : IsPlanNow u c.plan = subst (IsPlanNow u) (sym (went.plan ∙ ap (λ x. x.plan) e.rest)) of.plan in
      let q = falls u done (enc_task t) (offers_to a.plan told u.directory) plan (honest_offers u a.plan told of.honest) f.falls first
      (ran_there u done of here s first so) in
      let same : f.why ≡ w = one_some f.why w (sym f.kept ∙ failed ∙ is) in
      record {
        ran = q.1;
        written = q.0.site.written;
        failed = inr (record {
          ledger = q.0.site.ledger;
          recorded = q.0.site.recorded;
          ends = f.ends;
          marked = q.0.marked;
          all = subst (HasEnteredAll u done (enc_task t) new) same
              (λ x i. with_names x f.why (f.all x i));
        });
      }
    where
      with_names : (x : List ℕ) (v : Refusal) → (among x (names_of c) ≡ true) ⊎ IsLost v x → (among x (names_of new) ≡ true) ⊎ IsLost v x
      with_names x v (inl i) = inl (subst (λ (ts : List Task). among x (map enc_task ts) ≡ true) (sym names) i)
      with_names x v (inr l) = inr l

  -- one task more was to be entered than may be
  pub root_full : (new : Builder) → new ≡ record c { failure = None } → rests ≡ false → c.failure ≡ None → StopsRan held told a t new before after (Some Many)
  root_full new is no_rest calm u done of here s first so w some =
      let full = stops_over u done (enc_task t) c (subst (StopsRight u done (enc_task t) c) no_rest (ends_so u done of here s)) calm in
      record {
        ran = subst (λ x. HasRunSo u (offers_to a.plan told u.directory) x first after) (sym is) (ran_there u done of here s first so);
        written = subst (AreWritten u) (sym is) (unfailed_written u c full.written);
        failed = inl (one_refusal w some);
      }

  -- it has an output
  pub root_ends : (new : Builder) (why : Option Refusal) → new ≡ record c { failure = None } → rests ≡ true → (IsSettledRoot new.ledger t → why ≡ None)
      → StopsRan held told a t new before after why
  root_ends new why is rest none u done of here s first so w some =
      absurd (never w
      (sym (rest_is_none held told a b c t code at number e enters may site absent went rests right new why is rest none u done of here s) ∙ some))

-- a root that is entered has an output
pub root_entered : (held : Option Directory) (told : Directory → Task → List ℕ → List Offered) (b : Builder) (n : ℕ) (t : Task) (runs : List Task) (why : Option Refusal)
    → slice_get b.ledger.tables.names n ≡ Some t → (IsSettledRoot b.ledger t → why ≡ None) → StopsRan held told b t b runs runs why
root_entered held told b n t runs why named none u done of here s first so w some =
    absurd (never w (sym (none (is_settled u done b s n t named)) ∙ some))

-- one of no function fails
pub root_lost : (held : Option Directory) (told : Directory → Task → List ℕ → List Offered) (b : Builder) (t : Task) (runs : List Task) (why : Refusal)
    → why ≡ lost t → IsCanonicalTask t (enc_task t) → ¬ (Contains b.ledger.tables.names t) → MayEnter b t Unknown → StopsRan held told b t b runs runs (Some why)
root_lost held told b t runs why is canonical absent may u done of here s first so w some = record {
  ran = so;
  written = s.written;
  failed = inr (record {
    ledger = s.ledger;
    recorded = s.recorded;
    ends = lost_ends b t canonical absent u done s of.plan may.0 may.1;
    marked = λ n v at none.
        clash (among (enc_task v) [])
        (s.all (enc_task v) (among_at b.ledger.tables.names n v at)
        (record_by_number b.ledger.tables.names b.ledger.tables.records n v s.ledger.tasks at ∙ ap (option_map record_of) none)) refl;
    all = λ x i. by x (among_either x (names_of b) (enc_task t ∷ []) (lost_enters b t canonical absent u done s of.plan may.0 may.1 x i));
  });
}
  where
    by : (x : List ℕ) → (among x (names_of b) ≡ true) ⊎ (among x (enc_task t ∷ []) ≡ true) → (among x (names_of b) ≡ true) ⊎ IsLost w x
    by x (inl i) = inl i
    by x (inr i) =
        inr (record { task = t; is = sym (one_some why w some) ∙ is; canonical = canonical; bytes = sym (among_one x (enc_task t) i) })

-- none more may be entered
pub root_over : (held : Option Directory) (told : Directory → Task → List ℕ → List Offered) (b : Builder) (t : Task) (runs : List Task)
    → StopsRan held told b t b runs runs (Some Many)
root_over held told b t runs u done of here s first so w some = record { ran = so; written = s.written; failed = inl (one_refusal w some) }

-- ---- the roots

pub none_ran : (held : Option Directory) (told : Directory → Task → List ℕ → List Offered) (b : Builder) (roots runs : List Task)
    → HasSettledRan held told b roots b runs runs
none_ran held told b roots runs u of are begun first so = so

pub all_ran : (held : Option Directory) (told : Directory → Task → List ℕ → List Offered) (a b : Builder) (roots before after : List Task)
    → HasSettledRan held told a roots b before after → SettlesAllRan held told a roots b before after None
all_ran held told a b roots before after so none = so

pub all_refused : (held : Option Directory) (told : Directory → Task → List ℕ → List Offered) (a b : Builder) (roots before after : List Task) (why : Refusal)
    → SettlesAllRan held told a roots b before after (Some why)
all_refused held told a b roots before after why none = absurd (never why (sym none))

pub ran_one_more : (held mid : Option Directory) (told later : Directory → Task → List ℕ → List Offered) (a b c : Builder) (roots : List Task) (i : ℕ) (t : Task)
    (before now after : List Task) (why : Option Refusal) → (inside : i < length roots) → (at : t ≡ get_or roots i t) → (same : mid ≡ held)
    → (offers : later ≡ told) → (plan : b.plan ≡ a.plan) → (right : HasSettledRight held told a roots (take i roots) b)
    → SettlesRan mid later b t c now after why → why ≡ None → HasSettledRan held told a roots b before now → HasSettledRan held told a roots c before after
ran_one_more held mid told later a b c roots i t before now after why inside at same offers plan right settles none sofar u of are begun first so =
    let one = offers_still told later a b offers plan u.directory in
    subst (λ o. HasRunSo u o c first after) one
    (settles u (map enc_task (take i roots)) (build_then u held mid told later a.plan b.plan same offers plan of)
    (listed held mid told later a b c roots i t inside at same offers plan right u are) (right u of are begun) first
    (subst (λ o. HasRunSo u o b first now) (sym one) (sofar u of are begun first so)) none)

-- a root isn't settled
pub stops_one_more : (held mid : Option Directory) (told later : Directory → Task → List ℕ → List Offered) (a b c : Builder) (roots : List Task) (i : ℕ) (t : Task)
    (before now after : List Task) (why : Refusal) → (inside : i < length roots) → (at : t ≡ get_or roots i t) → (same : mid ≡ held)
    → (offers : later ≡ told) → (plan : b.plan ≡ a.plan) → (right : HasSettledRight held told a roots (take i roots) b)
    → StopsRan mid later b t c now after (Some why) → HasSettledRan held told a roots b before now → StopsAllRan held told a roots c before after (Some why)
stops_one_more held mid told later a b c roots i t before now after why inside at same offers plan right stops sofar u of are begun first so w some = record {
  done = map enc_task (take i roots);
  root = enc_task t;
  rest = map enc_task (drop (i + 1) roots);
  roots = split held mid told later a b c roots i t inside at same offers plan right ∙ are;
  refused =
      let one = offers_still told later a b offers plan u.directory in
      subst (λ o. HasRunRefused u o (map enc_task (take i roots)) (enc_task t) c first after w) one
      (stops u (map enc_task (take i roots)) (build_then u held mid told later a.plan b.plan same offers plan of)
      (listed held mid told later a b c roots i t inside at same offers plan right u are) (right u of are begun) first
      (subst (λ o. HasRunSo u o b first now) (sym one) (sofar u of are begun first so)) w some);
}

pub stops_none : (held : Option Directory) (told : Directory → Task → List ℕ → List Offered) (a b : Builder) (roots before after : List Task)
    → StopsAllRan held told a roots b before after None
stops_none held told a b roots before after u of are begun first so w some = absurd (never w some)
