-- What is made to happen, in order (this project's own).
use Rattle.std.specs.Prelude.{ℕ, zero, suc, ◌+◌, ◌-◌, ◌*◌, ◌%◌, ◌<◌, ◌==◌, if◌then◌else◌, List, [], ◌∷◌, ◌++◌}
use Rattle.trace_gen.specs.declared.acts.Act.{Act}
use Rattle.trace_gen.specs.declared.acts.Act.TheVariants.{Switch, Send, Receive}

-- the host that host 0 speaks to in round j
abbrev pub partner : ℕ → ℕ → ℕ
partner hosts j = 1 + j % (hosts - 1)

-- host 0 sends a message to host k, which answers with the next one; each of the two switches threads before it sends
abbrev pub exchange : ℕ → ℕ → List Act
exchange k message =
    Switch 0 ∷ Send message 0 k ∷ Receive message 0 k
    ∷ Switch k ∷ Send (message + 1) k 0 ∷ Receive (message + 1) k 0 ∷ []

-- round j; one host alone switches twice
abbrev pub round : ℕ → ℕ → List Act
round hosts j = if hosts == 1 then Switch 0 ∷ Switch 0 ∷ [] else exchange (partner hosts j) (2 * j)

-- all acts of so many rounds
abbrev pub acts_of : ℕ → ℕ → List Act
acts_of hosts zero = []
acts_of hosts (suc j) = acts_of hosts j ++ round hosts j

-- acts of hosts below 64
abbrev pub IsOfHosts : Act → Type 0
IsOfHosts (Switch host) = host < 64
IsOfHosts (Send message from to) = (from < 64) × (to < 64)
IsOfHosts (Receive message from to) = (from < 64) × (to < 64)
