-- Steps that are made one after another.
use Rattle.std.proofs.Common.{◌≡◌, ℕ, List, [], ◌∷◌, ◌++◌, Option, Some, None, ap, sym, subst, refl, ◌∙◌, inl, inr}
use Rattle.std.specs.Prelude.{IfSome, Result, Ok, Err, ◌⊎◌}
use Rattle.std.proofs.lemmas.List.{append_assoc, append-nil}
use Rattle.pie_files.specs.declared.files.Call.{Call}
use Rattle.pie_files.specs.declared.files.Call.TheVariants as calls
use Rattle.pie_files.specs.declared.files.FilesError.{FilesError}
use Rattle.pie_files.specs.declared.files.FilesError.TheVariants.{Failed, OutOfMemory}
use Rattle.pie_files.specs.Calls.{Called, IsWrite, Notes, NotesUnlessMemory}
use Rattle.pie_commit.specs.inner.Steps.{Step, Writes, Removes, Syncs, IsCallOf, AreCallsOf, MadeUntil, MadeSome, MadeBy, Makes}

-- calls of steps, and of more steps behind them
both : (a b : List Step) (m n : List Call) → AreCallsOf a m → AreCallsOf b n → AreCallsOf (a ++ b) (m ++ n)
both [] b [] n first second = second
both [] b (c ∷ m) n first second = absurd first
both (s ∷ a) b [] n first second = absurd first
both (s ∷ a) b (c ∷ m) n first second = (first.0, both a b m n first.1 second)

until_later : (a b : List Step) (m n : List Call) → AreCallsOf a m → MadeUntil b n → MadeUntil (a ++ b) (m ++ n)
until_later a b m n first second = record {
  front = a ++ second.front;
  step = second.step;
  rest = second.rest;
  is = ap (λ z. a ++ z) second.is ∙ sym (append_assoc a second.front (second.step ∷ second.rest));
  calls_are = subst (λ z. AreCallsOf z (m ++ n)) (sym (append_assoc a second.front (second.step ∷ [])))
      (both a (second.front ++ second.step ∷ []) m n first second.calls_are);
}

some_later : (a b : List Step) (m n : List Call) → AreCallsOf a m → MadeSome b n → MadeSome (a ++ b) (m ++ n)
some_later a b m n first second = record {
  front = a ++ second.front;
  rest = second.rest;
  is = ap (λ z. a ++ z) second.is ∙ sym (append_assoc a second.front second.rest);
  calls_are = both a second.front m n first second.calls_are;
}

made_later : (r : Result (Unit {0}) FilesError) (a b : List Step) (m n : List Call) → AreCallsOf a m → MadeBy r b n → MadeBy r (a ++ b) (m ++ n)
made_later (Ok v) a b m n first second = both a b m n first second
made_later (Err Failed) a b m n first second = until_later a b m n first second
made_later (Err OutOfMemory) a b m n first second = some_later a b m n first second

made_stops : (e : FilesError) (a b : List Step) (m : List Call) → MadeBy {T = Unit {0}} (Err e) a m → MadeBy {T = Unit {0}} (Err e) (a ++ b) m
made_stops Failed a b m first = record {
  front = first.front;
  step = first.step;
  rest = first.rest ++ b;
  is = ap (λ z. z ++ b) first.is ∙ append_assoc first.front (first.step ∷ first.rest) b;
  calls_are = first.calls_are;
}
made_stops OutOfMemory a b m first = record {
  front = first.front;
  rest = first.rest ++ b;
  is = ap (λ z. z ++ b) first.is ∙ append_assoc first.front first.rest b;
  calls_are = first.calls_are;
}

module _ {S : Type 0} (asked : S → Option (List Call)) where
  -- no step
  pub makes_none : (s : S) → Makes {T = Unit {0}} asked [] s s (Ok tt)
  makes_none s = by (asked s) refl
    where
      by : (o : Option (List Call)) → asked s ≡ o
          → IfSome o (λ before. (made : List Call) × (asked s ≡ Some (before ++ made)) × AreCallsOf [] made)
      by None e = tt
      by (Some before) e = ([], e ∙ ap Some (sym (append-nil before)), tt)

  -- one part after another
  pub makes_then : (r : Result (Unit {0}) FilesError) (v : Unit {0}) (a b : List Step) (old mid new : S) → Makes asked a old mid (Ok v)
      → Makes asked b mid new r → Makes asked (a ++ b) old new r
  makes_then r v a b old mid new first second = by (asked old) first
    where
      by : (o : Option (List Call)) → IfSome o (λ before. (made : List Call) × (asked mid ≡ Some (before ++ made)) × AreCallsOf a made)
          → IfSome o (λ before. (made : List Call) × (asked new ≡ Some (before ++ made)) × MadeBy r (a ++ b) made)
      by None h = tt
      by (Some before) h =
          let next = subst (λ o. IfSome o (λ front. (made : List Call) × (asked new ≡ Some (front ++ made)) × MadeBy r b made)) h.1 second in
          (h.0 ++ next.0, next.1 ∙ ap Some (append_assoc before h.0 next.0), made_later r a b h.0 next.0 h.2 next.2)

  -- a part that ends in an error ends the whole
  pub makes_stops : (e : FilesError) (a b : List Step) (old new : S) → Makes {T = Unit {0}} asked a old new (Err e)
      → Makes {T = Unit {0}} asked (a ++ b) old new (Err e)
  makes_stops e a b old new first = by (asked old) first
    where
      by : (o : Option (List Call)) → IfSome o (λ before. (made : List Call) × (asked new ≡ Some (before ++ made)) × MadeBy {T = Unit {0}} (Err e) a made)
          → IfSome o (λ before. (made : List Call) × (asked new ≡ Some (before ++ made)) × MadeBy {T = Unit {0}} (Err e) (a ++ b) made)
      by None h = tt
      by (Some before) h = (h.0, h.1, made_stops e a b h.0 h.2)

  -- what the rest of the steps makes is what all of them make
  abbrev pub Onward : List Step → List Step → S → S → Type 0
  Onward all rest old now = (r : Result (Unit {0}) FilesError) (new : S) → Makes asked rest now new r → Makes asked all old new r

  pub onward_more : (all rest later : List Step) (s : Step) (v : Unit {0}) (old now next : S) → rest ≡ s ∷ later → Makes asked (s ∷ []) now next (Ok v)
      → Onward all rest old now → Onward all later old next
  onward_more all rest later s v old now next is first onward r new second =
      onward r new (subst (λ steps. Makes asked steps now new r) (sym is) (makes_then r v (s ∷ []) later now next new first second))

  pub onward_stops : (all rest later : List Step) (s : Step) (e : FilesError) (old now new : S) → rest ≡ s ∷ later
      → Makes {T = Unit {0}} asked (s ∷ []) now new (Err e) → Onward all rest old now → Makes {T = Unit {0}} asked all old new (Err e)
  onward_stops all rest later s e old now new is first onward =
      onward (Err e) new (subst (λ steps. Makes {T = Unit {0}} asked steps now new (Err e)) (sym is) (makes_stops e (s ∷ []) later now new first))

  pub onward_ends : (all rest : List Step) (old now : S) → rest ≡ [] → Onward all rest old now → Makes {T = Unit {0}} asked all old now (Ok tt)
  onward_ends all rest old now is onward = onward (Ok tt) now (subst (λ steps. Makes {T = Unit {0}} asked steps now now (Ok tt)) (sym is) (makes_none now))

  -- one call, which is that of a step whatever comes of it
  one_call : (r : Result (Unit {0}) FilesError) (kind : Call → Type 0) (s : Step) (old new : S) → ((c : Call) → kind c → IsCallOf s c)
      → NotesUnlessMemory r kind (asked old) (asked new) → Makes asked (s ∷ []) old new r
  one_call (Ok v) kind s old new means noted = by (asked old) noted
    where
      by : (o : Option (List Call)) → Notes kind o (asked new)
          → IfSome o (λ before. (made : List Call) × (asked new ≡ Some (before ++ made)) × AreCallsOf (s ∷ []) made)
      by None h = tt
      by (Some before) h = (h.0 ∷ [], h.2, (means h.0 h.1, tt))
  one_call (Err Failed) kind s old new means noted = by (asked old) noted
    where
      by : (o : Option (List Call)) → Notes kind o (asked new)
          → IfSome o (λ before. (made : List Call) × (asked new ≡ Some (before ++ made)) × MadeUntil (s ∷ []) made)
      by None h = tt
      by (Some before) h = (h.0 ∷ [], h.2, record { front = []; step = s; rest = []; is = refl; calls_are = (means h.0 h.1, tt) })
  one_call (Err OutOfMemory) kind s old new means noted = by (asked old) noted
    where
      by : (o : Option (List Call)) → (asked new ≡ o) ⊎ Notes kind o (asked new)
          → IfSome o (λ before. (made : List Call) × (asked new ≡ Some (before ++ made)) × MadeSome (s ∷ []) made)
      by None h = tt
      by (Some before) (inl same) =
          ([], same ∙ ap Some (sym (append-nil before)), record { front = []; rest = s ∷ []; is = refl; calls_are = tt })
      by (Some before) (inr h) = (h.0 ∷ [], h.2, record { front = s ∷ []; rest = []; is = refl; calls_are = (means h.0 h.1, tt) })

  wrote : (r : Result (Unit {0}) FilesError) (p : List ℕ) (c : Call) → IsWrite p r c → (mark : Option ℕ) × (c ≡ calls.Write p mark)
  wrote (Ok v) p c is = (Some is.0, is.1)
  wrote (Err e) p c is = (None, is)

  pub makes_write : (r : Result (Unit {0}) FilesError) (faults : S → ℕ) (p : List ℕ) (old new : S) → Called asked faults (IsWrite p r) old new r
      → Makes asked (Writes p ∷ []) old new r
  makes_write r faults p old new called = one_call r (IsWrite p r) (Writes p) old new (wrote r p) called.noted

  pub makes_remove : (r : Result (Unit {0}) FilesError) (faults : S → ℕ) (p : List ℕ) (old new : S)
      → Called asked faults (λ c. c ≡ calls.Remove p) old new r → Makes asked (Removes p ∷ []) old new r
  makes_remove r faults p old new called = one_call r (λ c. c ≡ calls.Remove p) (Removes p) old new (λ c is. is) called.noted

  pub makes_sync : (r : Result (Unit {0}) FilesError) (faults : S → ℕ) (old new : S) → Called asked faults (λ c. c ≡ calls.Sync) old new r
      → Makes asked (Syncs ∷ []) old new r
  makes_sync r faults old new called = one_call r (λ c. c ≡ calls.Sync) Syncs old new (λ c is. is) called.noted
