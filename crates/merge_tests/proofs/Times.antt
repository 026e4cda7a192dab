-- The times of hosts, one after the other.
use Rattle.std.proofs.Common.{◌≡◌, ◌<◌, ◌≤◌, ◌+◌, ◌^◌, ◌⊎◌, inl, inr, ℕ, All, Some, List, length, get_or, slice_get, ap, ◌∙◌, sym, subst, arith}
use Rattle.std.proofs.lemmas.Bool.{cases_lt}
use Rattle.std.proofs.lemmas.Option.{get_or_from_slice_get, slice_get_within}
use Rattle.trace_types.specs.declared.event.Event.{Event}
use Rattle.trace_types.specs.declared.host.HostEvents.{HostEvents}
use Rattle.host_merge.specs.Merge.{HaveTimes}

-- so many of the hosts have times
abbrev pub HaveTimesBelow : ℕ → List HostEvents → Type 0
HaveTimesBelow bound hosts = (u : ℕ) (h : HostEvents) → u < bound → slice_get hosts u ≡ Some h → All (λ e. e.time < 2 ^ 62) h.events.items

pub one_more : (bound : ℕ) (hosts : List HostEvents) (host : HostEvents) → slice_get hosts bound ≡ Some host → All (λ e. e.time < 2 ^ 62) host.events.items → HaveTimesBelow bound hosts → HaveTimesBelow (bound + 1) hosts
one_more bound hosts host at all below u h lt e = by (cases_lt u bound)
  where
    by : (u < bound) ⊎ (bound ≤ u) → All (λ e. e.time < 2 ^ 62) h.events.items
    by (inl less) = below u h less e
    by (inr more) =
        let last : u ≡ bound = omega arith in
        let there : slice_get hosts bound ≡ Some h = ap (slice_get hosts) (sym last) ∙ e in
        let same : host ≡ h = cc in
        subst (λ (x : HostEvents). All (λ e. e.time < 2 ^ 62) x.events.items) same all

pub all_hosts : (bound : ℕ) (hosts : List HostEvents) → length hosts ≤ bound → HaveTimesBelow bound hosts → HaveTimes hosts
all_hosts bound hosts long below = record {
  below = λ u k host event e f.
      let all = below u host (omega (arith, slice_get_within hosts u host e)) e in
      let t : (get_or host.events.items k event).time < 2 ^ 62 = all k event (slice_get_within host.events.items k event f) in
      subst (λ (x : Event). x.time < 2 ^ 62) (get_or_from_slice_get host.events.items k event event f) t;
}
