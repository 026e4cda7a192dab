-- What the pieces of all files hold, cut into what those of each file do.
use Rattle.std.proofs.Common.{◌≡◌, ℕ, zero, suc, ◌≤◌, ◌<◌, List, [], ◌∷◌, length, get_or, drop, arith}
use Rattle.std.proofs.lemmas.List.{length-append}
use Rattle.type_table.specs.TraceMetas.{TraceMetaModel}
use Rattle.decode_pool.specs.declared.files.FileBytes.{FileBytes}
use Rattle.decode_pool.specs.Hosts.{all_parts, part_counts}
use Rattle.decode_pool.specs.Parts.{parts_of}

pub own_left : (host : ℕ) (meta : TraceMetaModel) (files : List FileBytes) (i n : ℕ) → i < length files → n ≡ get_or (part_counts host meta files) i 0 → n ≤ length (all_parts host meta (drop i files))
own_left host meta [] i n below is = absurd (omega (arith, below))
own_left host meta (f ∷ fs) zero n below is = omega (arith, is, length-append (parts_of host meta f.bytes.items) (all_parts host meta fs))
own_left host meta (f ∷ fs) (suc i) n below is = own_left host meta fs i n (omega (arith, below)) is
