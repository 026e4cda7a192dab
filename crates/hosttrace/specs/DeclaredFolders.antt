-- Folders whose metadata was read (this project's own).
use Rattle.std.specs.Prelude.{IfOk}
use Rattle.type_scope.specs.Traces.{trace}
use Rattle.type_table.specs.TraceMetas.{IsSoundMeta}
use Rattle.trace_metadata.specs.Files.{IsTrace, IsRefused, OnRefusal}
use Rattle.hosttrace.specs.declared.declared.DeclaredFolder.{DeclaredFolder}

-- the metadata of the folder declares what was read of it, or is refused for that cause, or memory ran out
pub record HasReadMetadata (read : DeclaredFolder) : Type 0 where
  pub declares : IfOk read.meta (λ meta. IsTrace read.folder.metadata (trace meta))
  pub sound : IfOk read.meta IsSoundMeta
  pub refused : OnRefusal (IsRefused read.folder.metadata) read.meta
