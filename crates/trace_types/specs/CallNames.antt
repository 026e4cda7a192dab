-- The names of system calls' events (those of LTTng's kernel tracer).
use Rattle.std.specs.Prelude.{Bool, ℕ, ◌||◌, List, codes, nat_eq}
use Rattle.std.specs.List.{starts_with}

-- what the names of entries begin with (LTTng's kernel tracer)
abbrev pub call_entry : List ℕ
call_entry = codes "syscall_entry_"

-- an entry into a system call, of 64 bits or of 32 bits (LTTng's kernel tracer)
abbrev pub is_call_in : List ℕ → Bool
is_call_in name = starts_with nat_eq name call_entry || starts_with nat_eq name (codes "compat_syscall_entry_")

-- a return from one (LTTng's kernel tracer)
abbrev pub is_call_out : List ℕ → Bool
is_call_out name = starts_with nat_eq name (codes "syscall_exit_") || starts_with nat_eq name (codes "compat_syscall_exit_")
