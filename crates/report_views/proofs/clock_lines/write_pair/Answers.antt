use Rattle.std.proofs.Common.{◌≡◌, ◌+◌, ◌*◌, ◌∷◌, ◌++◌, ◌⊎◌, inl, inr, ℕ, List, [], codes, sym, ap, ◌∙◌, rules}
use Rattle.std.specs.Prelude.{slice_get, OnOk}
use Rattle.std.specs.Fmt.{decimal}
use Rattle.std.proofs.lemmas.Option.{slice_get_read}
use Rattle.report_views.specs.Report.{count_at, is_map, yes_or_no}
use Rattle.report_views.proofs.ReportLines.{last_part, pair_is, same_text}
use Rattle.report_views.proofs.MessageCounts.{place_below}
use Rattle.report_views.proofs.clock_lines.write_pair.Goals as goal

not_both : {A B : Type 0} → (A × (B → ⊥)) ⊎ (A → ⊥) → A → B → ⊥
not_both (inl x) a b = x.1 b
not_both (inr x) a b = x a

pub returns : goal.returns
returns c =
    let u = c.args.first in
    let v = c.args.second in
    let hosts = c.args.hosts in
    let fits = c.args.fits.now in
    let count = count_at hosts c.args.counts.now in
    let usable : List ℕ = c.yes_or_no-usable.result.now in
    let back : List ℕ = c.yes_or_no-back_usable.result.now in
    let head = codes "pair " ++ (decimal u ++ 32 ∷ (decimal v ++ 32 ∷ (decimal (count u v) ++ 32 ∷ (decimal (count v u) ++ 32 ∷ [])))) in
    let tail = usable ++ 32 ∷ (back ++ 10 ∷ []) in
    let first : c.write.new.self.items ≡ c.args.out.now.items ++ head = search rules in
    let plain : OnOk c.map_err-2.result (c.writeln.new.self.items ≡ c.write.new.self.items ++ tail) = search rules in
    let square = c.requires.square in
    let low = place_below hosts u v c.requires.first c.requires.second in
    let high = place_below hosts v u c.requires.second c.requires.first in
    let there = slice_get_read fits (hosts * hosts) (u * hosts + v) c.index-fits-there.result (sym square) low c.index-fits-there.is in
    let here = slice_get_read fits (hosts * hosts) (v * hosts + u) c.index-fits-back.result (sym square) high c.index-fits-back.is in
    let yes : usable ≡ yes_or_no (is_map (slice_get fits (u * hosts + v))) = c.yes_or_no-usable.ensures ∙ ap yes_or_no (c.is_map.ensures ∙ ap is_map (sym there)) in
    let also : back ≡ yes_or_no (is_map (slice_get fits (v * hosts + u))) = c.yes_or_no-back_usable.ensures ∙ ap yes_or_no (c.is_map-2.ensures ∙ ap is_map (sym here)) in
    same_text c.map_err-2.result c.args.out.now.items c.writeln.new.self.items (head ++ tail) _ (pair_is hosts count fits u v usable back (not_both c.else-sent-eq0.either) yes also)
    (last_part c.map_err-2.result c.args.out.now.items c.write.new.self.items c.writeln.new.self.items head tail first plain)
