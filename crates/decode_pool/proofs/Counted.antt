-- One host more of those that are decoded.
use Rattle.std.proofs.Common.{◌≡◌, ◌∙◌, ◌+◌, ◌<◌, ℕ, List, [], ◌∷◌, ◌++◌, append_assoc, length, get_or, drop, map, sym, ap, subst}
use Rattle.std.proofs.lemmas.List.{drop_more, map-append}
use Rattle.std.specs.List.{AllByRecursion}
use Rattle.decode_pool.specs.declared.hosts.HostFiles.{HostFiles}
use Rattle.decode_pool.specs.declared.pieces.HostPieces.{HostPieces}
use Rattle.decode_pool.specs.Jobs.{host_of}
use Rattle.decode_pool.specs.Limits.{HasSmallFiles, host_packets, packet_count}

-- those from one on have small files
pub more_small : (hosts : List HostFiles) (i : ℕ) (h : HostFiles) → i < length hosts → AllByRecursion HasSmallFiles (drop i hosts) → h ≡ get_or hosts i h → HasSmallFiles h × AllByRecursion HasSmallFiles (drop (i + 1) hosts)
more_small hosts i h lt all at =
    let both = subst (AllByRecursion HasSmallFiles) (drop_more hosts i h lt) all in
    (subst HasSmallFiles (sym at) both.0, both.1)

pub packets_more : (hosts : List HostFiles) (i : ℕ) (h : HostFiles) → i < length hosts → h ≡ get_or hosts i h → packet_count (drop i hosts) ≡ host_packets h.meta h.files.items + packet_count (drop (i + 1) hosts)
packets_more hosts i h lt at = ap packet_count (drop_more hosts i h lt) ∙ ap (λ x. packet_count (x ∷ drop (i + 1) hosts)) (sym at)

pub hosts_next : (hosts : List HostFiles) (cut after : List HostPieces) (i : ℕ) (p : HostPieces) (h : HostFiles) → i < length hosts → h ≡ get_or hosts i h → host_of p ≡ h → after ≡ cut ++ p ∷ [] → map host_of cut ++ drop i hosts ≡ hosts
    → map host_of after ++ drop (i + 1) hosts ≡ hosts
hosts_next hosts cut after i p h lt at of e so_far =
    let rest = drop (i + 1) hosts in
    ap (λ l. map host_of l ++ rest) e ∙ (ap (λ l. l ++ rest) (map-append host_of cut (p ∷ [])) ∙ (append_assoc (map host_of cut) (host_of p ∷ []) rest ∙ (ap (λ l. map host_of cut ++ l) (ap (λ x. x ∷ rest) (of ∙ at) ∙ sym (drop_more hosts i h lt)) ∙ so_far)))
