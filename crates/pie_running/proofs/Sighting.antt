-- What a task is told of a path is what the model tells it.
use Rattle.std.proofs.Common.{◌≡◌, ℕ, false, Option, Some, None, List, refl, sym, ◌∙◌}
use Rattle.std.specs.Prelude.{is_some}
use Rattle.std.specs.Option.{option_map}
use Rattle.pie_base.specs.Path.{is_out, is_source}
use Rattle.pie_value.specs.declared.event.By.{By}
use Rattle.pie_value.specs.declared.event.By.TheVariants as stamped
use Rattle.pie_model.specs.declared.words.Look.TheVariants as looks
use Rattle.pie_model_pipeline.specs.Words.{look_by}
use Rattle.pie_builder_laws.specs.Looks.{IsLook, Sight}
use Rattle.pie_builder_laws.proofs.Lookings.{presence_is, reading_is, digest_is}
use Rattle.pie_running.specs.inner.Sights.{Sighted, hash_in}
use Rattle.pie_running.specs.inner.Told.{told_flag, told_reading, told_hash}

pub map_twice : {A : Type 0} {B : Type 0} {C : Type 0} (f : A → B) (g : B → C) (o : Option A)
    → option_map g (option_map f o) ≡ option_map (λ x. g (f x)) o
map_twice f g None = refl
map_twice f g (Some x) = refl

pub flag_is : (path : List ℕ) (seen : Sight) → IsLook looks.Exists path seen (told_flag path (is_some seen)).0 (told_flag path (is_some seen)).1
flag_is path None = presence_is path None
flag_is path (Some f) = presence_is path (Some f)

pub reading_as : (by : By) (path : List ℕ) (seen : Sight) → (is_out path ≡ false → is_source path ≡ false → seen ≡ None)
    → IsLook (look_by by) path seen (told_reading by path seen).0 (told_reading by path seen).1
reading_as stamped.Hash path seen k = reading_is stamped.Hash path seen k
reading_as stamped.Mark path seen k = reading_is stamped.Mark path seen k
reading_as stamped.Raw path seen k = reading_is stamped.Raw path seen k

pub same_sight : (o : Sighted) (seen : Sight) → o ≡ Some seen → o ≡ Some None → seen ≡ None
same_sight o seen e f = inside (sym e ∙ f)
  where
    inside : Some seen ≡ Some None → seen ≡ None
    inside h = cc

pub hash_is : (path : List ℕ) (seen : Sight) → IsLook looks.Digest path seen (told_hash path (hash_in seen)).0 (told_hash path (hash_in seen)).1
hash_is path None = digest_is path None
hash_is path (Some f) = digest_is path (Some f)
