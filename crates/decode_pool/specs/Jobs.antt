-- Pieces of files that are decoded one by one, in any order.
use Rattle.std.specs.Prelude.{ℕ, ◌≡◌, ◌≤◌, ◌^◌, List, [], ◌∷◌, ◌++◌, All, Option, length, map}
use Rattle.packet_decoder.specs.Pieces.{PieceLiesIn}
use Rattle.kernel_layout.specs.Tracepoints.{layout_of}
use Rattle.decode_pool.specs.declared.decoding.Job.{Job}
use Rattle.decode_pool.specs.declared.hosts.HostFiles.{HostFiles}
use Rattle.decode_pool.specs.declared.hosts.HostParts.{HostParts}
use Rattle.decode_pool.specs.declared.decoded_packet.DecodedPacket.{DecodedPacket}
use Rattle.decode_pool.specs.declared.pieces.HostPieces.{HostPieces}
use Rattle.decode_pool.specs.declared.pieces.Pieces.{Pieces}
use Rattle.decode_pool.specs.Excess.{part_within}
use Rattle.decode_pool.specs.Hosts.{all_parts, part_counts}
use Rattle.decode_pool.specs.Parts.{part_of}

-- a piece of a file of at most 2^60 bytes, with the layout of its trace
pub record CanDecode (job : Job) : Type 0 where
  pub layout_is : job.layout.now ≡ layout_of job.meta.now
  pub small : length job.file.now ≤ 2 ^ 60
  pub inside : PieceLiesIn job.file.now job.piece

-- so many events of it are kept
abbrev pub Allows : ℕ → Job → Type 0
Allows most job = most ≤ job.most

abbrev pub job_part : Job → DecodedPacket
job_part job = part_of job.host job.meta.now job.file.now job.piece

-- what is kept of it
abbrev pub job_within : Job → Option DecodedPacket
job_within job = part_within job.most (job_part job)

abbrev pub host_of : HostPieces → HostFiles
host_of p = p.host.now

-- what the pieces of hosts' files hold, host after host
abbrev pub hosts_parts : List HostFiles → List DecodedPacket
hosts_parts [] = []
hosts_parts (h ∷ hs) = all_parts h.host h.meta h.files.items ++ hosts_parts hs

-- so many pieces each file of a host has, and so many they are together
pub record IsCounted (p : HostPieces) : Type 0 where
  pub counts : p.counts.items ≡ part_counts p.host.now.host p.host.now.meta p.host.now.files.items
  pub pieces : p.pieces ≡ length (all_parts p.host.now.host p.host.now.meta p.host.now.files.items)

-- all pieces of hosts' files, of each of which so many events are kept
pub record IsCut (most : ℕ) (p : Pieces) : Type 0 where
  pub can : All CanDecode p.jobs.items
  pub allowed : All (Allows most) p.jobs.items
  pub parts : map job_part p.jobs.items ≡ hosts_parts (map host_of p.hosts.items)
  pub counted : All IsCounted p.hosts.items

abbrev pub owner : HostParts → HostFiles
owner h = h.host.now

-- what the pieces of a host's files hold, and how many pieces each file has
pub record HasParts (h : HostParts) : Type 0 where
  pub parts : h.parts.items ≡ all_parts h.host.now.host h.host.now.meta h.host.now.files.items
  pub counts : h.counts.now ≡ part_counts h.host.now.host h.host.now.meta h.host.now.files.items
