-- How the logic stores entries: a map into plain data that is one to one.
use Rattle.std.proofs.Common.{ℕ, List, refl}
use Rattle.std.specs.Coded.{Coded, code_by, coded×, coded_ℕ, coded_list}
use Rattle.pie_scan.specs.declared.entry.Entry.{Entry}

abbrev pub coded_entry : Coded Entry
coded_entry =
    code_by (List ℕ × (ℕ × List ℕ)) (coded× (coded_list coded_ℕ) (coded× coded_ℕ (coded_list coded_ℕ)))
    (λ e. (e.path, (e.mark, e.hash))) (λ p. record { path = p.0; mark = p.1.0; hash = p.1.1 }) (λ _. refl)

abbrev pub coded_entries : Coded (List Entry)
coded_entries = coded_list coded_entry
