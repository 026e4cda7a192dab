use Rattle.std.proofs.Common.{◌≡◌, ◌≤◌, ◌+◌, ◌++◌, length, map}
use Rattle.std.specs.List.{AllByRecursion}
use Rattle.std.specs.Vec.Iter.{into_iter_items, into_iter_len}
use Rattle.hosttrace.specs.Folders.{MAX_HOSTS}
use Rattle.hosttrace.specs.Read.{AreDeclared}
use Rattle.hosttrace.specs.DeclaredFolders.{HasReadMetadata}
use Rattle.hosttrace.proofs.DeclaredFolders.{folder_of}
use Rattle.hosttrace.proofs.declared.numbered_hosts.Given as goal

abbrev pub invariant-loop-folder : goal.invariant-loop-folder
invariant-loop-folder l =
    (l.yielded ++ into_iter_items l.folder-iterator ≡ into_iter_items l.initial.folder-iterator)
    × (into_iter_len l.folder-iterator ≡ length (into_iter_items l.folder-iterator))
    × AreDeclared 0 (map folder_of l.yielded) l.hosts.items
    × (l.host ≡ length l.yielded)
    × (l.host + length (into_iter_items l.folder-iterator) ≤ MAX_HOSTS)
    × AllByRecursion HasReadMetadata (into_iter_items l.folder-iterator)
