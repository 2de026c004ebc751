use Rattle.std.proofs.Common.{rules, ap, ⊎_elim, inl, inr, length}
use Rattle.stored_head.proofs.Reading.{no_time, no_tag, no_limits, no_version, no_count, no_such_attributes, no_end, head_met, data_same, in_ok, in_err}
use Rattle.stored_head.proofs.local_cache_head.LocalCacheHead.read.Goals as goal

pub returns-in_err-time : goal.returns-in_err-time
returns-in_err-time c = rw c.from_residual-in_err-time.ensures (no_time c.args.bytes.now _ _ c.in_ok-size.ensures c.in_err-time.ensures)

pub returns-in_err-e_tag : goal.returns-in_err-e_tag
returns-in_err-e_tag c =
    rw c.from_residual-in_err-e_tag.ensures (no_tag c.args.bytes.now _ _ c.in_ok-size.ensures _ _ c.in_ok-time.ensures c.in_err-e_tag.ensures)

pub returns-in_err-version : goal.returns-in_err-version
returns-in_err-version c =
    rw c.from_residual-in_err-version.ensures
    (no_version c.args.bytes.now _ _ c.in_ok-size.ensures _ _ c.in_ok-time.ensures _ _ c.in_ok-e_tag.ensures c.in_err-version.ensures)

pub returns-in_err-count : goal.returns-in_err-count
returns-in_err-count c =
    rw c.from_residual-in_err-count.ensures
    (no_count c.args.bytes.now _ _ c.in_ok-size.ensures _ _ c.in_ok-time.ensures _ _ c.in_ok-e_tag.ensures _ _ c.in_ok-version.ensures c.in_err-count.ensures)

pub returns-in_err-attributes : goal.returns-in_err-attributes
returns-in_err-attributes c =
    rw c.from_residual-in_err-attributes.ensures
    (no_such_attributes c.args.bytes.now _ _ c.in_ok-size.ensures _ _ c.in_ok-time.ensures _ _ c.in_ok-e_tag.ensures _ _ c.in_ok-version.ensures
    _ _ c.in_ok-count.ensures c.in_err-attributes.ensures)

pub returns-then-not-is_empty : goal.returns-then-not-is_empty
returns-then-not-is_empty c =
    no_end c.args.bytes.now _ _ c.in_ok-size.ensures _ _ c.in_ok-time.ensures _ _ c.in_ok-e_tag.ensures _ _ c.in_ok-version.ensures
    _ _ c.in_ok-count.ensures _ _ c.in_ok-attributes.ensures (λ none. let empty = ap length none in search rules)

pub returns-in_err-names : goal.returns-in_err-names
returns-in_err-names c =
    let refused = in_err c.new.result _ _ c.in_err-names.ensures.value c.new.ensures in
    rw c.from_residual-in_err-names.ensures
    (no_limits c.args.bytes.now _ _ c.in_ok-size.ensures _ _ c.in_ok-time.ensures
    (⊎_elim (λ large. inl large.0) (λ late. inr late.1) refused.1))

pub returns : goal.returns
returns c =
    let names = in_ok c.new.result c.in_ok-names.names _ _ c.in_ok-names.ensures.value c.new.ensures in
    head_met c.args.bytes.now _ _ c.in_ok-size.ensures _ _ c.in_ok-time.ensures _ _ c.in_ok-e_tag.ensures _ _ c.in_ok-version.ensures
    _ _ c.in_ok-count.ensures _ _ c.in_ok-attributes.ensures c.in_ok-names.names
    (data_same c.in_ok-names.names _ _ _ _ _ names.2 names.3 names.4 names.5 names.6) names.0 names.1 (search rules)
