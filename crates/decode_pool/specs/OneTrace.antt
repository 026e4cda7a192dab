-- What the stream files of a host tell by two representations of one trace (this project's own).
use Rattle.std.specs.Prelude.{◌≡◌, ℕ, List}
use Rattle.type_table.specs.TraceMetas.{TraceMetaModel}
use Rattle.decode_pool.specs.declared.files.FileBytes.{FileBytes}
use Rattle.decode_pool.specs.Hosts.{all_events, all_incomplete, all_packets, all_refused}
use Rattle.decode_pool.specs.Limits.{host_packets}

-- files of one name and the same bytes
pub record IsSameFile (f g : FileBytes) : Type 0 where
  pub name : f.name ≡ g.name
  pub bytes : f.bytes.items ≡ g.bytes.items

-- one list of events with their marks, one list of refused packets, and one number of each kind
pub record TellSame (host : ℕ) (m n : TraceMetaModel) (files others : List FileBytes) : Type 0 where
  pub events : all_events host m files ≡ all_events host n others
  pub refused : all_refused host m files ≡ all_refused host n others
  pub accepted : all_packets host m files ≡ all_packets host n others
  pub incomplete : all_incomplete host m files ≡ all_incomplete host n others
  pub packets : host_packets m files ≡ host_packets n others
