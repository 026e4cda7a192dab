-- The lines of latencies, with one more.
use Rattle.std.proofs.Common.{◌≡◌, ◌∙◌, ℕ, ◌+◌, List, [], ◌∷◌, ◌++◌, length, ap, sym, arith, append-nil, append_assoc}
use Rattle.report_views.specs.DisksText.{latency_lines, latency_told}

pub latency_more : (host dev place : ℕ) (ns : List ℕ) (n at : ℕ) → at ≡ place + length ns → latency_lines host dev place (ns ++ n ∷ []) ≡ latency_lines host dev place ns ++ latency_told host dev at n
latency_more host dev place [] n at e = append-nil (latency_told host dev place n) ∙ ap (λ k. latency_told host dev k n) (omega (arith, e))
latency_more host dev place (m ∷ ms) n at e =
    ap (λ l. latency_told host dev place m ++ l) (latency_more host dev (place + 1) ms n at (omega (arith, e)))
    ∙ sym (append_assoc (latency_told host dev place m) (latency_lines host dev (place + 1) ms) (latency_told host dev at n))
