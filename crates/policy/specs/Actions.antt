-- The action that each policy gives to a tag, and the number of each action.
use Rattle.std.specs.Prelude.{ℕ, Bool, true, false, Some, None, Option}
use Rattle.records.specs.declared.tag.ObjectStoreCallTag.{ObjectStoreCallTag}
use Rattle.records.specs.declared.tag.SstType.{SstType}
use Rattle.records.specs.declared.tag.SstType.TheVariants.{Compacted, Wal}
use Rattle.records.specs.declared.tag.TableStoreKind.{TableStoreKind}
use Rattle.records.specs.declared.tag.TableStoreKind.TheVariants.{Main, Reader, Compactor, GC}
use Rattle.policy.specs.declared.action.GetAction.{GetAction}
use Rattle.policy.specs.declared.action.HeadAction.{HeadAction}
use Rattle.policy.specs.declared.action.PutAction.{PutAction}
use Rattle.policy.specs.declared.action.PutAction.TheVariants.{Cache, Skip}
use Rattle.policy.specs.declared.get_policy.FixedGetPolicy.{FixedGetPolicy}
use Rattle.policy.specs.declared.put_policy.CachePutConfig.{CachePutConfig}
use Rattle.policy.specs.declared.put_policy.FixedPutPolicy.{FixedPutPolicy}

-- a get, by the kind, the type and the retry mark of its tag
abbrev pub get_table : TableStoreKind → SstType → (retry : Bool) → GetAction
get_table Main Compacted false = GetAction.ReadThrough
get_table Main Compacted true = GetAction.Refetch
get_table Main Wal retry = GetAction.Bypass
get_table Reader Compacted false = GetAction.ReadThrough
get_table Reader Compacted true = GetAction.Refetch
get_table Reader Wal retry = GetAction.Bypass
get_table Compactor type retry = GetAction.Bypass
get_table GC type retry = GetAction.Bypass

-- a head, by the kind and the type
abbrev pub head_table : TableStoreKind → SstType → HeadAction
head_table Main Compacted = HeadAction.ReadThrough
head_table Main Wal = HeadAction.Bypass
head_table Reader Compacted = HeadAction.ReadThrough
head_table Reader Wal = HeadAction.Bypass
head_table Compactor Compacted = HeadAction.Probe
head_table Compactor Wal = HeadAction.Bypass
head_table GC type = HeadAction.Bypass

-- a put whose writer has a mark in the configuration
abbrev pub if_on : (mark : Bool) → PutAction
if_on true = Cache
if_on false = Skip

-- a put, by the marks of the configuration, the kind and the type
abbrev pub put_table : CachePutConfig → TableStoreKind → SstType → PutAction
put_table c Main Compacted = if_on c.cache_on_flush
put_table c Main Wal = Skip
put_table c Reader type = Skip
put_table c Compactor Compacted = if_on c.cache_on_compaction
put_table c Compactor Wal = Skip
put_table c GC type = Skip

-- the default policies: the tables, and an untagged call passes the cache by
abbrev pub default_gets : Option ObjectStoreCallTag → GetAction
default_gets None = GetAction.Bypass
default_gets (Some t) = get_table t.kind t.sst_type t.retry

abbrev pub default_heads : Option ObjectStoreCallTag → HeadAction
default_heads None = HeadAction.Bypass
default_heads (Some t) = head_table t.kind t.sst_type

abbrev pub default_puts : CachePutConfig → Option ObjectStoreCallTag → PutAction
default_puts c None = Skip
default_puts c (Some t) = put_table c t.kind t.sst_type

-- the fixed policies: the action that was set, whatever the tag
abbrev pub fixed_gets : FixedGetPolicy → Option ObjectStoreCallTag → GetAction
fixed_gets p tag = p.get

abbrev pub fixed_heads : FixedGetPolicy → Option ObjectStoreCallTag → HeadAction
fixed_heads p tag = p.head

abbrev pub fixed_puts : FixedPutPolicy → Option ObjectStoreCallTag → PutAction
fixed_puts p tag = p.put

-- the number of an action
abbrev pub get_number : GetAction → ℕ
get_number GetAction.Bypass = 0
get_number GetAction.Refetch = 1
get_number GetAction.ReadThrough = 2

abbrev pub head_number : HeadAction → ℕ
head_number HeadAction.Bypass = 0
head_number HeadAction.Probe = 1
head_number HeadAction.ReadThrough = 2

abbrev pub put_number : PutAction → ℕ
put_number Skip = 0
put_number Cache = 1
