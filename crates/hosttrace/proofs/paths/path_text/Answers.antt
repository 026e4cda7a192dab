use Rattle.std.proofs.Common.{◌≡◌, ◌∙◌, Err, ap, rules, subst₂}
use Rattle.wait_graph.specs.Graph.{IsGraphOf}
use Rattle.hosttrace.proofs.PathTexts.{not_named, path_fails, path_text_of}
use Rattle.hosttrace.proofs.paths.path_text.Goals as goal

pub returns-in-Err-clause-fails : goal.returns-in-Err-clause-fails
returns-in-Err-clause-fails c =
    let found = c.args.found.now in
    let graph = c.in_ok-graph.graph in
    let window = c.args.window in
    let merged : c.deref.result.now ≡ found.merged.items = search rules in
    let placed : c.deref-2.result.now ≡ found.placed.items = search rules in
    let is : IsGraphOf found.merged.items found.placed.items graph = subst₂ (λ ms ps. IsGraphOf ms ps graph) merged placed c.in_ok-graph.ensures in
    path_fails found.merged.items window.host window.tid c.in-Err.error c.pathless.result c.pathless.ensures (λ e. not_named found.merged.items found.placed.items graph window.host window.tid window.from window.to is (c.critical.ensures.no_thread (c.in-Err.is ∙ ap Err e)))

pub returns-clause-text : goal.returns-clause-text
returns-clause-text c =
    let found = c.args.found.now in
    let graph = c.in_ok-graph.graph in
    let window = c.args.window in
    let merged : c.deref.result.now ≡ found.merged.items = search rules in
    let placed : c.deref-2.result.now ≡ found.placed.items = search rules in
    let is : IsGraphOf found.merged.items found.placed.items graph = subst₂ (λ ms ps. IsGraphOf ms ps graph) merged placed c.in_ok-graph.ensures in
    path_text_of found.merged.items found.placed.items graph window.host window.tid window.from window.to is c.requires.merge c.in-Ok.ensures.named c.in-Ok.pieces.items c.in-Ok.ensures.path c.pieces_text.new.out.items (search rules)
