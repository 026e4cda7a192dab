-- How what contracts see of a history is stored.
use Rattle.std.specs.Prelude.{ℕ, List, Option, refl}
use Rattle.std.specs.Coded.{Coded, code_by, coded×, coded_ℕ, coded_list, coded_option}
use Rattle.std.specs.Ordering.{nat_cmp}
use Rattle.std.specs.Cmp.Lexicographic.{slice_cmp}
use Rattle.std.specs.FinMap as map
use Rattle.trace_types.specs.declared.path.Path.{Path as AttributePath}
use Rattle.trace_types.specs.declared.value.Value.{Value}
use Rattle.trace_types.specs.contracts.path.Path as path
use Rattle.trace_types.specs.contracts.value.Value as value
use Rattle.history_tree.specs.Tree.{NodeTree}
use Rattle.history_tree.specs.contracts.tree.Tree as tree
use Rattle.history_core.specs.declared.closed.Since.{Since}
use Rattle.history_core.specs.Opened.{since_code}
use Rattle.history_core.specs.Stands.{HistoryModel}

-- what contracts see of a history, as a tuple
abbrev pub kept_code : Coded HistoryModel
kept_code = code_by
    (List AttributePath × (map.FinMap (slice_cmp nat_cmp) (ℕ × Value) × (List (Option Since) × (ℕ × (ℕ × NodeTree)))))
    (coded× (coded_list path.the_row.coded) (coded× (map.code (coded_list coded_ℕ) (coded× coded_ℕ value.the_row.coded)) (coded× (coded_list (coded_option since_code)) (coded× coded_ℕ (coded× coded_ℕ tree.the_row.coded)))))
    (λ h. (h.paths, (h.closed, (h.opened, (h.count, (h.built, h.tree))))))
    (λ p. record { paths = p.0; closed = p.1.0; opened = p.1.1.0; count = p.1.1.1.0; built = p.1.1.1.1.0; tree = p.1.1.1.1.1 })
    (λ _. refl)
