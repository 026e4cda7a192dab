use Rattle.std.proofs.Common.{rules, ◌<◌, length}
use Rattle.hull_lines.specs.Outcomes.{IfMap, IfRefused, IsMapOf, IsRefusal}
use Rattle.hull_lines.proofs.Decided.{fit_map, fit_refused, mapped_usable, refusal_is, refused_unusable, usable_mapped}
use Rattle.hull_lines.proofs.fit.lines.Goals as goal

pub returns-in-Ok-clause-map : goal.returns-in-Ok-clause-map
returns-in-Ok-clause-map c =
    let l : 0 < length c.args.lower.now = search rules in
    let u : 0 < length c.args.upper.now = search rules in
    fit_map c.args.lower.now c.args.upper.now c.args.drift c.in-Ok.range c.fit_between.result l u c.requires.drift.1 c.in-Ok.ensures.range c.fit_between.ensures.map

pub returns-in-Ok-clause-refused : goal.returns-in-Ok-clause-refused
returns-in-Ok-clause-refused c =
    let l : 0 < length c.args.lower.now = search rules in
    let u : 0 < length c.args.upper.now = search rules in
    fit_refused c.args.lower.now c.args.upper.now c.args.drift c.in-Ok.range c.fit_between.result l u c.in-Ok.ensures.range c.fit_between.ensures.refused

pub returns-in-Ok-clause-mapped : goal.returns-in-Ok-clause-mapped
returns-in-Ok-clause-mapped c =
    let l : 0 < length c.args.lower.now = search rules in
    let u : 0 < length c.args.upper.now = search rules in
    let m : IfMap c.fit_between.result (IsMapOf c.args.lower.now c.args.upper.now c.args.drift) =
    fit_map c.args.lower.now c.args.upper.now c.args.drift c.in-Ok.range c.fit_between.result l u c.requires.drift.1 c.in-Ok.ensures.range c.fit_between.ensures.map in
    let r : IfRefused c.fit_between.result (IsRefusal c.args.lower.now c.args.upper.now c.args.drift) =
    fit_refused c.args.lower.now c.args.upper.now c.args.drift c.in-Ok.range c.fit_between.result l u c.in-Ok.ensures.range c.fit_between.ensures.refused in
    (mapped_usable c.args.lower.now c.args.upper.now c.args.drift c.fit_between.result m, usable_mapped c.args.lower.now c.args.upper.now c.args.drift c.fit_between.result c.fit_between.ensures.some r)

pub returns-in-Err-clause-refused : goal.returns-in-Err-clause-refused
returns-in-Err-clause-refused c =
    let l : 0 < length c.args.lower.now = search rules in
    let u : 0 < length c.args.upper.now = search rules in
    refusal_is c.args.lower.now c.args.upper.now c.args.drift c.in-Err.certificate l u c.in-Err.ensures.refused

pub returns-in-Err-clause-mapped : goal.returns-in-Err-clause-mapped
returns-in-Err-clause-mapped c = (λ h. absurd h, refused_unusable c.args.lower.now c.args.upper.now c.args.drift c.in-Err.certificate c.in-Err.ensures.refused)
