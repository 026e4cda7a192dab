use Rattle.std.proofs.Common.{◌≡◌, ◌∙◌, ap, map, subst, sym}
use Rattle.std.specs.List.{AllByRecursion, AllZip}
use Rattle.rayon.specs.Lists.{vec_items}
use Rattle.hosttrace.specs.DeclaredFolders.{HasReadMetadata}
use Rattle.hosttrace.proofs.DeclaredFolders.{all_read, folder_of, same_folders}
use Rattle.hosttrace.proofs.declared.read_metas.Goals as goal

pub returns-clause-same : goal.returns-clause-same
returns-clause-same g c =
    let base = ap (λ it. vec_items it.base) c.map.ensures.base ∙ (ap (λ it. vec_items it) c.with_min_len.ensures.base ∙ c.into_par_iter.ensures) in
    let h = c.in_ok-folders.ensures in let chain = h.1 in
    ap (map folder_of) h.2 ∙ same_folders c.args.read.items h.0 (subst (λ l. AllZip (λ folder f. (f.folder ≡ folder) × HasReadMetadata f) l h.0) (chain.1 ∙ base) chain.2)

pub returns-clause-each : goal.returns-clause-each
returns-clause-each g c =
    let base = ap (λ it. vec_items it.base) c.map.ensures.base ∙ (ap (λ it. vec_items it) c.with_min_len.ensures.base ∙ c.into_par_iter.ensures) in
    let h = c.in_ok-folders.ensures in let chain = h.1 in
    subst (AllByRecursion HasReadMetadata) (sym h.2) (all_read c.args.read.items h.0 (subst (λ l. AllZip (λ folder f. (f.folder ≡ folder) × HasReadMetadata f) l h.0) (chain.1 ∙ base) chain.2))
