-- Tables: what recorded tasks have, and one more entered task.
use Rattle.std.proofs.Common.{ℕ, suc, ◌≤◌, ◌<◌, ◌+◌, ◌≡◌, Bool, true, false, Option, Some, None, List, [], ◌∷◌, ◌++◌, length, ◌⊎◌, inl, inr, sym, ◌∙◌, ap}
use Rattle.std.proofs.Common.{subst, refl, arith}
use Rattle.pie_model.specs.Paths.{among}
use Rattle.pie_model.specs.Tasks.{Task}
use Rattle.pie_model.specs.Trees.{outcome_of, is_done, is_plain}
use Rattle.pie_model.specs.declared.words.Outcome.{Outcome}
use Rattle.pie_model.specs.declared.words.Outcome.TheVariants.{Ended, Failed, Cycled, Many}
use Rattle.pie_model.specs.Evaluation.{World, Project, evaluation}
use Rattle.pie_model.specs.Records.{Record}
use Rattle.pie_model.specs.inner.Present.{Reaches}
use Rattle.pie_model.specs.inner.Present.Way.{here, along}
use Rattle.pie_model.specs.inner.Consistent.{IsRecorded}
use Rattle.pie_model.specs.Running.{IsDistinct}
use Rattle.pie_model.specs.inner.RecordLaws.{HasItsRecord}
use Rattle.pie_model.proofs.Basics.{clash, among_here, among_left, among_either, among_split, apart_rest}
use Rattle.pie_model.specs.Trees.{HasTask, entered}
use Rattle.pie_model.proofs.Rooms.{Standing, standing, nothing_new}
use Rattle.pie_model.proofs.Ways.{stands_reached}
use Rattle.pie_model.proofs.PlacedLemmas.{without_all, without_all_fewer}
use Rattle.pie_step_laws.specs.Table.{IsTable}

-- a task that is among the tasks is one of them; a single one is that one
pub among_one : (x y : Task) → among x (y ∷ []) ≡ true → x ≡ y
among_one x y h = go (among_split x y [] h)
  where
    go : (x ≡ y) ⊎ (among x [] ≡ true) → x ≡ y
    go (inl e) = e
    go (inr k) = clash false k refl

pub not_among_end : (x y : Task) (ys : List Task) → among x ys ≡ false → (x ≡ y → ⊥) → among x (ys ++ y ∷ []) ≡ false
not_among_end x y ys h f = go (among x (ys ++ y ∷ [])) refl
  where
    either : {A : Type 0} → (among x ys ≡ true) ⊎ (among x (y ∷ []) ≡ true) → A
    either (inl k) = clash (among x ys) k h
    either (inr k) = absurd (f (among_one x y k))

    go : (b : Bool) → among x (ys ++ y ∷ []) ≡ b → among x (ys ++ y ∷ []) ≡ false
    go true e = either (among_either x ys (y ∷ []) e)
    go false e = e

-- one more task at the end
pub distinct_end : (xs : List Task) (x : Task) → IsDistinct xs → among x xs ≡ false → IsDistinct (xs ++ x ∷ [])
distinct_end [] x d h = (refl, tt)
distinct_end (y ∷ ys) x d h = (
  not_among_end y x ys d.0 (λ e. clash (among x (y ∷ ys)) (subst (λ z. among z (y ∷ ys) ≡ true) e (among_here y ys)) h),
  distinct_end ys x d.1 (apart_rest x y ys h),
)

pub length_end : (xs : List Task) (x : Task) → length (xs ++ x ∷ []) ≡ suc (length xs)
length_end [] x = refl
length_end (y ∷ ys) x = ap suc (length_end ys x)

-- distinct tasks are no more than those that they are among
pub no_more : (ts xs : List Task) → IsDistinct ts → ((t : Task) → among t ts ≡ true → among t xs ≡ true) → length ts ≤ length xs
no_more ts xs d f = up (length (without_all ts xs)) (length ts) (length xs) (without_all_fewer ts xs d f)
  where
    up : (a b c : ℕ) → a + b ≤ c → b ≤ c
    up a b c h = omega arith

pub done_plain : (e : Outcome) → is_done e ≡ true → is_plain e ≡ true
done_plain (Ended v) h = refl
done_plain (Failed t k) h = refl
done_plain (Cycled ts) h = h
done_plain Many h = h

-- what is none is not recorded
pub none_some : {A : Type 0} {B : Type 0} (o : Option A) (a : A) → o ≡ None → o ≡ Some a → B
none_some o a h k = absurd (never (sym h ∙ k))
  where
    never : None ≡ Some a → ⊥
    never e = cc

module _ (w : World) (P : Project) (R : Task → Option Record) (names : List Task) (T : IsTable w P R names) where
  -- a recorded task has its record
  pub has_its_record : (x : Task) → IsRecorded R x → HasItsRecord w P R x
  has_its_record x k =
      record { is = k.is ∙ ap Some (T.right x k.kept k.is); plain = done_plain (outcome_of (evaluation w P x)) (T.done x k.kept k.is) }

  -- whatever a recorded task reaches is recorded
  pub reached_recorded : {x u : Task} → Reaches R u x → IsRecorded R u → IsRecorded R x
  reached_recorded here k = k
  reached_recorded {u = u} (along {b = b} {r = r} e i q) k = reached_recorded q (T.closed u r b e i)

  pub all_right : (u : Task) → IsRecorded R u → (x : Task) → Reaches R u x → HasItsRecord w P R x
  all_right u k x q = has_its_record x (reached_recorded q k)

  -- what stands in the evaluation of a recorded task is recorded
  pub standing_recorded : (u : Task) → IsRecorded R u → (x : Task) → HasTask x (evaluation w P u) → IsRecorded R x
  standing_recorded u k x i = go (standing x (evaluation w P u) i)
    where
      go : Standing x (evaluation w P u) → IsRecorded R x
      go s =
          reached_recorded (subst (λ z. Reaches R u z) s.is (stands_reached w P R (evaluation w P u) u s.found refl (all_right u k) s.stands).way) k

  -- the evaluation of a recorded task enters nothing new
  pub adds_nothing : (u : Task) → IsRecorded R u → entered (evaluation w P u) names ≡ names
  adds_nothing u k =
      nothing_new (evaluation w P u) names (λ x i. is_counted x (standing_recorded u k x i))
    where
      is_counted : (x : Task) → IsRecorded R x → among x names ≡ true
      is_counted x q = T.counted x q.kept q.is

  -- a task that was not entered is not recorded
  pub new_unrecorded : (u : Task) → among u names ≡ false → R u ≡ None
  new_unrecorded u h = go (R u) refl
    where
      go : (o : Option Record) → R u ≡ o → R u ≡ None
      go None e = e
      go (Some r) e = clash (among u names) (T.counted u r e) h

  -- one more task is entered
  pub one_more_entered : (u : Task) → among u names ≡ false → length names < w.most_tasks → IsTable w P R (names ++ u ∷ [])
  one_more_entered u h few =
      record {
        right = T.right;
        done = T.done;
        closed = T.closed;
        counted = λ t r e. among_left t names (u ∷ []) (T.counted t r e);
        distinct = distinct_end names u T.distinct h;
        few = up (length names) w.most_tasks (length (names ++ u ∷ [])) (length_end names u) few;
      }
    where
      up : (a b c : ℕ) → c ≡ suc a → a < b → c ≤ b
      up a b c e k = omega arith
