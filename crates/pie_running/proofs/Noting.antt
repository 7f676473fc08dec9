-- What was noted can be stored, also with one note more.
use Rattle.std.proofs.Common.{◌≡◌, ℕ, ◌+◌, ◌-◌, ◌<◌, ◌^◌, List, [], ◌∷◌, ◌++◌, length, subst, sym, ap, refl, ◌∙◌, append-nil, arith}
use Rattle.std.proofs.lemmas.List.{length-append}
use Rattle.std.proofs.lemmas.List.Elements.{All-push}
use Rattle.std.proofs.lemmas.Grind.{flat_map-append}
use Rattle.pie_value.specs.declared.stamp.Stamp.{Stamp}
use Rattle.pie_record.specs.declared.dep.Dep.{Dep}
use Rattle.pie_record.specs.declared.dep.DepKind.{DepKind}
use Rattle.pie_store.specs.Canonical.{required_on}
use Rattle.pie_record.specs.Canonical.{IsStorableDep, IsStorableWrite}
use Rattle.pie_running.specs.inner.Noted.{Noted, file_dep, tasks_on, observed, required, wrote, IsSound}
use Rattle.pie_running.specs.inner.Steps.{Advanced, Given}

one_more : {X : Type 0} (xs : List X) (x : X) → length (xs ++ x ∷ []) ≡ length xs + 1
one_more xs x = length-append xs (x ∷ [])

room : (d w l : ℕ) → 0 < l → d + w + l < 2 ^ 32 → (d + 1) + w + (l - 1) < 2 ^ 32
room d w l some few = omega (arith, some, few)

room_written : (d w l : ℕ) → 0 < l → d + w + l < 2 ^ 32 → d + (w + 1) + (l - 1) < 2 ^ 32
room_written d w l some few = omega (arith, some, few)

pub observed_sound : (d : Dep) (n : Noted) → IsStorableDep d → 0 < n.left → IsSound n → IsSound (observed d n)
observed_sound d n storable some s = record {
  task = s.task;
  deps = All-push IsStorableDep n.deps d s.deps storable;
  writes = s.writes;
  few = subst (λ k. k + length n.writes + (n.left - 1) < 2 ^ 32) (sym (one_more n.deps d)) (room (length n.deps) (length n.writes) n.left some s.few);
}

pub required_sound : (d : Dep) (number height : ℕ) (n : Noted) → IsStorableDep d → 0 < n.left → IsSound n → IsSound (required d number height n)
required_sound d number height n storable some s = record {
  task = s.task;
  deps = All-push IsStorableDep n.deps d s.deps storable;
  writes = s.writes;
  few = subst (λ k. k + length n.writes + (n.left - 1) < 2 ^ 32) (sym (one_more n.deps d)) (room (length n.deps) (length n.writes) n.left some s.few);
}

pub required_sound_as : (d : Dep) (number height : ℕ) (n m : Noted) → m ≡ required d number height n → IsStorableDep d → 0 < n.left → IsSound n → IsSound m
required_sound_as d number height n m e storable some s = subst IsSound (sym e) (required_sound d number height n storable some s)

pub wrote_sound : (path hash : List ℕ) (n : Noted) → IsStorableWrite (path, hash) → 0 < n.left → IsSound n → IsSound (wrote path hash n)
wrote_sound path hash n storable some s = record {
  task = s.task;
  deps = s.deps;
  writes = All-push IsStorableWrite n.writes (path, hash) s.writes storable;
  few = subst (λ k. length n.deps + k + (n.left - 1) < 2 ^ 32) (sym (one_more n.writes (path, hash)))
      (room_written (length n.deps) (length n.writes) n.left some s.few);
}

one_off : (l : ℕ) → 0 < l → (l - 1) + 1 ≡ l
one_off l some = omega (arith, some)

one_task_more : (deps : List Dep) (d : Dep) → tasks_on (deps ++ d ∷ []) ≡ tasks_on deps ++ required_on d.what
one_task_more deps d =
    flat_map-append (λ (e : Dep). required_on e.what) deps (d ∷ []) ∙ ap (λ ts. tasks_on deps ++ ts) (append-nil (required_on d.what))

pub observed_advanced : (kind : DepKind) (path : List ℕ) (stamp : Stamp) (n m : Noted) → 0 < n.left → m ≡ observed (file_dep kind path stamp) n → Advanced n m
observed_advanced kind path stamp n m some e =
    subst (λ k. Advanced n k) (sym e) (record {
      task = refl;
      number = refl;
      needs = refl;
      tasks = one_task_more n.deps (file_dep kind path stamp) ∙ append-nil (tasks_on n.deps);
      height = refl;
      left = one_off n.left some;
    })

pub wrote_advanced : (path hash : List ℕ) (n m : Noted) → 0 < n.left → m ≡ wrote path hash n → Advanced n m
wrote_advanced path hash n m some e =
    subst (λ k. Advanced n k) (sym e) (record { task = refl; number = refl; needs = refl; tasks = refl; height = refl; left = one_off n.left some })

pub required_given : (d : Dep) (number height : ℕ) (n m : Noted) → 0 < n.left → m ≡ required d number height n → Given d.what number height n m
required_given d number height n m some e =
    subst (λ k. Given d.what number height n k) (sym e)
    (record { task = refl; same = refl; needs = refl; tasks = one_task_more n.deps d; high = refl; left = one_off n.left some })
