-- How the logic stores what a running task has done.
use Rattle.std.specs.Prelude.{ℕ, List, refl}
use Rattle.std.specs.Coded.{Coded, code_by, coded×, coded_ℕ, coded_list}
use Rattle.pie_value.specs.declared.task.Task.{Task}
use Rattle.pie_value.specs.inner.TaskCodes.{coded_task}
use Rattle.pie_record.specs.declared.dep.Dep.{Dep}
use Rattle.pie_record.specs.inner.Codes.{coded_deps}
use Rattle.pie_running.specs.inner.Noted.{Noted}

abbrev pub coded_noted : Coded Noted
coded_noted =
    code_by ((Task × ℕ) × ((List Dep × List (List ℕ × List ℕ)) × (List ℕ × (ℕ × ℕ))))
    (coded× (coded× coded_task coded_ℕ) (coded× (coded× coded_deps (coded_list (coded× (coded_list coded_ℕ) (coded_list coded_ℕ))))
    (coded× (coded_list coded_ℕ) (coded× coded_ℕ coded_ℕ))))
    (λ n. ((n.task, n.number), ((n.deps, n.writes), (n.needs, (n.height, n.left)))))
    (λ p. record { task = p.0.0; number = p.0.1; deps = p.1.0.0; writes = p.1.0.1; needs = p.1.1.0; height = p.1.1.1.0; left = p.1.1.1.1 }) (λ _. refl)
