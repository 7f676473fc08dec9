-- What trees observe and write is among their strings.
use Rattle.std.proofs.Common.{ℕ, ◌≡◌, true, Option, Some, None, List, [], ◌∷◌, ◌++◌, inl, inr, sym, subst}
use Rattle.std.specs.List.{flat_map}
use Rattle.pie_model.specs.Paths.{Path, among}
use Rattle.pie_model.specs.Tasks.{Task}
use Rattle.pie_model.specs.declared.words.Look.{Look}
use Rattle.pie_model.specs.declared.words.Look.TheVariants.{Exists, ByHash, ByMark, Digest}
use Rattle.pie_model.specs.declared.words.Seen.{Seen}
use Rattle.pie_model.specs.declared.words.Seen.TheVariants.{Nothing, Holds, Clashing}
use Rattle.pie_model.specs.declared.words.Outcome.{Outcome}
use Rattle.pie_model.specs.declared.words.Outcome.TheVariants.{Ended, Failed, Cycled, Many}
use Rattle.pie_model.specs.Trees.{Node, node, Trace, ends, looks, lists, writes, needs}
use Rattle.pie_model.specs.Trees.{outcome_of, trace_of, StandsIn, StandsBelow}
use Rattle.pie_model.specs.Evaluation.{World, Project, evaluation}
use Rattle.pie_model.specs.Forest.{forest}
use Rattle.pie_model.specs.Separate.{MetContents, MetSeen, MetListing, MetOutcome, AllMet}
use Rattle.pie_model.specs.Changes.{contents_strings, seen_strings, listing_strings, outcome_strings, strings_in, strings_below, IsBase, IsMet}
use Rattle.pie_model.specs.Changes.IsMet.{met_now, met_then}
use Rattle.pie_model.proofs.Basics.{among_here, among_there, among_left, among_right}
use Rattle.pie_earlier_laws.specs.Met.{StandsAmong}

module _ (w : World) (Met : List ℕ → Type 0) where
  -- each of these strings is met
  abbrev pub AreMet : List (List ℕ) → Type 0
  AreMet bs = (b : List ℕ) → among b bs ≡ true → Met b

  left : (xs ys : List (List ℕ)) → AreMet (xs ++ ys) → AreMet xs
  left xs ys f b i = f b (among_left b xs ys i)

  right : (xs ys : List (List ℕ)) → AreMet (xs ++ ys) → AreMet ys
  right xs ys f b i = f b (among_right b xs ys i)

  met_contents : (s : Seen) → AreMet (contents_strings s) → MetContents Met s
  met_contents Nothing f = tt
  met_contents (Holds b m) f = f b (among_here b [])
  met_contents Clashing f = tt

  met_seen : (l : Look) (s : Seen) → AreMet (seen_strings l s) → MetSeen Met l s
  met_seen Exists s f = tt
  met_seen ByHash s f = met_contents s f
  met_seen ByMark s f = met_contents s f
  met_seen Digest s f = met_contents s f

  met_listing : (es : Option (List Path)) → AreMet (listing_strings w es) → MetListing w Met es
  met_listing None f = tt
  met_listing (Some es) f = f (w.listing_bytes es) (among_here (w.listing_bytes es) [])

  met_outcome : (e : Outcome) → AreMet (outcome_strings e) → MetOutcome Met e
  met_outcome (Ended v) f = f v (among_here v [])
  met_outcome (Failed t k) f = tt
  met_outcome (Cycled ts) f = tt
  met_outcome Many f = tt

  met_kid : (n : Node) → AreMet (strings_in w n) → MetOutcome Met (outcome_of n)
  met_kid (node t k) f = met_outcome (outcome_of (node t k)) (left (outcome_strings (outcome_of (node t k))) (strings_below w k) f)

  met_below : (k : Trace) → AreMet (strings_below w k) → AllMet w Met k
  met_below (ends e) f = tt
  met_below (looks l p s k) f = (
    met_seen l s (left (seen_strings l s) (strings_below w k) f),
    met_below k (right (seen_strings l s) (strings_below w k) f),
  )
  met_below (lists d es k) f = (
    met_listing es (left (listing_strings w es) (strings_below w k) f),
    met_below k (right (listing_strings w es) (strings_below w k) f),
  )
  met_below (writes p b k) f = (f b (among_here b (strings_below w k)), met_below k (λ c i. f c (among_there c b (strings_below w k) i)))
  met_below (needs h u n k) f = (
    met_kid n (left (strings_in w n) (strings_below w k) f),
    met_below k (right (strings_in w n) (strings_below w k) f),
  )

  met_node : (n : Node) → AreMet (strings_in w n) → AllMet w Met (trace_of n)
  met_node (node t k) f = met_below k (right (outcome_strings (outcome_of (node t k))) (strings_below w k) f)

  mutual
    -- what stands in a tree has its strings among those of the tree
    stands_met : (m n : Node) → AreMet (strings_in w n) → StandsIn m n → AreMet (strings_in w m)
    stands_met m (node t k) f (inl e) = subst (λ z. AreMet (strings_in w z)) (sym e) f
    stands_met m (node t k) f (inr s) = below_met m k (right (outcome_strings (outcome_of (node t k))) (strings_below w k) f) s

    below_met : (m : Node) (k : Trace) → AreMet (strings_below w k) → StandsBelow m k → AreMet (strings_in w m)
    below_met m (ends e) f s = absurd s
    below_met m (looks l p x k) f s = below_met m k (right (seen_strings l x) (strings_below w k) f) s
    below_met m (lists d es k) f s = below_met m k (right (listing_strings w es) (strings_below w k) f) s
    below_met m (writes p b k) f s = below_met m k (λ c i. f c (among_there c b (strings_below w k) i)) s
    below_met m (needs h u n k) f (inl s) = stands_met m n (left (strings_in w n) (strings_below w k) f) s
    below_met m (needs h u n k) f (inr s) = below_met m k (right (strings_in w n) (strings_below w k) f) s

  -- where all strings of a tree are met, so is what each evaluation in it observes and writes
  pub standing_met : (m n : Node) → AreMet (strings_in w n) → StandsIn m n → AllMet w Met (trace_of m)
  standing_met m n f s = met_node m (stands_met m n f s)

  pub among_met : (m : Node) (ns : List Node) → AreMet (flat_map (strings_in w) ns) → StandsAmong m ns → AllMet w Met (trace_of m)
  among_met m [] f s = absurd s
  among_met m (n ∷ ns) f (inl s) = standing_met m n (left (strings_in w n) (flat_map (strings_in w) ns) f) s
  among_met m (n ∷ ns) f (inr s) = among_met m ns (right (strings_in w n) (flat_map (strings_in w) ns) f) s

module _ (w : World) (old now : Project) (old_roots roots : List Task) (besides : List (List ℕ)) where
  pub tried_met : (base : Task) (m : Node) → IsBase w old old_roots roots base → StandsIn m (evaluation w now base)
      → AllMet w (IsMet w old now old_roots roots besides) (trace_of m)
  tried_met base m h s = standing_met w (IsMet w old now old_roots roots besides) m (evaluation w now base) (λ b i. met_now base h i) s

  pub old_met : (m : Node) → StandsAmong m (forest w old old_roots) → AllMet w (IsMet w old now old_roots roots besides) (trace_of m)
  old_met m s = among_met w (IsMet w old now old_roots roots besides) m (forest w old old_roots) (λ b i. met_then i) s
