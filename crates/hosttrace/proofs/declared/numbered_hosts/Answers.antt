use Rattle.std.proofs.Common.{◌≡◌, ◌∙◌, ◌++◌, ◌∷◌, [], length, map, sym, ap, subst, append_assoc, length-append, arith, rules}
use Rattle.std.specs.List.{AllByRecursion}
use Rattle.std.specs.Vec.Iter.{into_iter_items}
use Rattle.hosttrace.specs.Read.{AreDeclared}
use Rattle.hosttrace.specs.DeclaredFolders.{HasReadMetadata}
use Rattle.hosttrace.proofs.DeclaredFolders.{folder_fails, folder_of, next_declared}
use Rattle.hosttrace.proofs.declared.numbered_hosts.Goals as goal

pub returns-in_err-declared_host-clause-fails : goal.returns-in_err-declared_host-clause-fails
returns-in_err-declared_host-clause-fails c =
    let at = c.loop-folder in
    let whole : at.yielded ++ c.in-Some.folder ∷ into_iter_items c.next.new.self ≡ c.args.folders.items = sym (ap (λ l. at.yielded ++ l) c.in-Some.ensures.steps.0) ∙ (at.invariant.0 ∙ c.into_iter-folder-iterator.ensures.into_iter_gives.0) in
    let fails = folder_fails at.yielded at.hosts.items c.in-Some.folder (into_iter_items c.next.new.self) c.args.folders.items c.in_err-declared_host.field-0.0 at.host whole at.invariant.3 at.invariant.2 c.in_err-declared_host.ensures.fails in
    search rules

pub loop-folder-preserved : goal.loop-folder-preserved
loop-folder-preserved c =
    let at = c.loop-folder in
    let steps : into_iter_items at.folder-iterator ≡ c.in-Some.folder ∷ into_iter_items c.next.new.self = c.in-Some.ensures.steps.0 in
    let gone = c.in-Some.ensures.steps.1 in
    let long = at.invariant.1 in
    let short = ap length steps in
    let count = length-append at.yielded (c.in-Some.folder ∷ []) in
    let number = at.invariant.3 in
    let room = at.invariant.4 in
    let pushed : c.push.new.self.items ≡ at.hosts.items ++ c.in_ok-declared_host.field-0 ∷ [] = search rules in
    let read : AllByRecursion HasReadMetadata (c.in-Some.folder ∷ into_iter_items c.next.new.self) = subst (AllByRecursion HasReadMetadata) steps at.invariant.5 in (
      append_assoc at.yielded (c.in-Some.folder ∷ []) _ ∙ (sym (ap (λ l. at.yielded ++ l) steps) ∙ at.invariant.0),
      omega (arith, gone, long, short),
      subst (AreDeclared 0 (map folder_of (at.yielded ++ c.in-Some.folder ∷ []))) (sym pushed) (next_declared at.yielded at.hosts.items c.in-Some.folder c.in_ok-declared_host.field-0 at.host number at.invariant.2 c.in_ok-declared_host.ensures.host),
      omega (arith, count, number),
      omega (arith, short, room),
      read.1,
    )
