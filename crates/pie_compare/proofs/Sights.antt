-- What is seen of what others wrote is one thing.
use Rattle.std.proofs.Common.{◌≡◌, ℕ, Bool, true, List, [], None, sym, subst, ◌∙◌, arith}
use Rattle.std.specs.Prelude.{IsTrue, ◌↔◌}
use Rattle.pie_value.specs.declared.stamp.Stamp.{Stamp}
use Rattle.pie_record.specs.declared.dep.DepKind.{DepKind}
use Rattle.pie_record.specs.inner.Records.{record_of}
use Rattle.pie_tables.specs.declared.tables.Tables.{Tables}
use Rattle.pie_view.specs.declared.seen.Seen.{Seen}
use Rattle.pie_view.specs.declared.seen.Seen.TheVariants.{Absent, By, Clash}
use Rattle.pie_view.specs.Seen.{IsOnly, IsOwn, Visible}
use Rattle.pie_compare.specs.inner.Standing.{Around, write_at, hash_in, is_of_file, out_stamp, SeenStands, OthersStand, OutStands}

pub none_own : (path : List ℕ) → IsOwn [] path → ⊥
none_own path own = omega (arith, own.1.1)

seen_same : (P : ℕ → Type 0) (t : Tables) (kind : DepKind) (path : List ℕ) (stamp : Stamp) (a b : Seen) → IsOnly P a → IsOnly P b
    → SeenStands t kind path stamp b → SeenStands t kind path stamp a
seen_same P t kind path stamp Absent Absent one other h = h
seen_same P t kind path stamp Absent (By k) one other h = absurd (one k.0 other.0)
seen_same P t kind path stamp Absent Clash one other h = absurd h
seen_same P t kind path stamp (By j) Absent one other h = absurd (other j.0 one.0)
seen_same P t kind path stamp (By j) (By k) one other h =
    subst (λ (n : ℕ). stamp ≡ out_stamp kind (hash_in (record_of t.records n) path)) (one.1 k.0 other.0) h
seen_same P t kind path stamp (By j) Clash one other h = absurd h
seen_same P t kind path stamp Clash Absent one other h = absurd (other one.0 one.2)
seen_same P t kind path stamp Clash (By k) one other h = absurd (one.4 (other.1 one.0 one.2 ∙ sym (other.1 one.1 one.3)))
seen_same P t kind path stamp Clash Clash one other h = h

pub others_are : (a : Around) (required : List ℕ) (kind : DepKind) (path : List ℕ) (stamp : Stamp) (seen : Seen) (stands : Bool)
    → IsOnly (Visible a.rows required path) seen → IsTrue stands ↔ SeenStands a.tables kind path stamp seen
    → IsTrue stands ↔ OthersStand a required kind path stamp
others_are a required kind path stamp seen stands only is =
    (λ yes. (seen, only, is.0 yes), λ others. is.1 (seen_same (Visible a.rows required path) a.tables kind path stamp seen others.0 only others.1 others.2))

pub outs_are : (a : Around) (required : List ℕ) (kind : DepKind) (path : List ℕ) (stamp : Stamp) (stands : Bool) → is_of_file kind ≡ true
    → write_at a.own path ≡ None → IsTrue stands ↔ OthersStand a required kind path stamp → IsTrue stands ↔ OutStands a required kind path stamp
outs_are a required kind path stamp stands file none is = (
  λ yes. record { file = file; own = λ hash some. absurd (let apart = sym none ∙ some in cc); others = λ _. is.0 yes },
  λ outs. is.1 (outs.others none),
)
