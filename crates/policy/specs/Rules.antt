-- What the default policies keep, whatever the tag and the configuration.
use Rattle.std.specs.Prelude.{◌≡◌, true, false, ◌⊎◌, Some, None, Option}
use Rattle.records.specs.declared.tag.ObjectStoreCallTag.{ObjectStoreCallTag}
use Rattle.records.specs.declared.tag.SstType.TheVariants.{Compacted, Wal}
use Rattle.records.specs.declared.tag.TableStoreKind.TheVariants.{Main, Reader, Compactor, GC}
use Rattle.policy.specs.declared.action.GetAction.{GetAction}
use Rattle.policy.specs.declared.action.HeadAction.{HeadAction}
use Rattle.policy.specs.declared.action.PutAction.{PutAction}
use Rattle.policy.specs.declared.action.PutAction.TheVariants.{Cache, Skip}
use Rattle.policy.specs.declared.put_policy.CachePutConfig.{CachePutConfig}
use Rattle.policy.specs.Actions.{default_gets, default_heads, default_puts}

-- what is held may answer the get
abbrev pub GetServed : GetAction → Type 0
GetServed GetAction.Bypass = ⊥
GetServed GetAction.Refetch = ⊥
GetServed GetAction.ReadThrough = Unit {0}

-- what the get brings may be saved
abbrev pub GetSaved : GetAction → Type 0
GetSaved GetAction.Bypass = ⊥
GetSaved GetAction.Refetch = Unit {0}
GetSaved GetAction.ReadThrough = Unit {0}

-- the head that is brought may be saved
abbrev pub HeadSaved : HeadAction → Type 0
HeadSaved HeadAction.Bypass = ⊥
HeadSaved HeadAction.Probe = ⊥
HeadSaved HeadAction.ReadThrough = Unit {0}

-- the bytes that are put may be saved
abbrev pub PutSaved : PutAction → Type 0
PutSaved Cache = Unit {0}
PutSaved Skip = ⊥

-- no call with this tag looks anything up in the cache or changes it
pub record PassesBy (c : CachePutConfig) (tag : Option ObjectStoreCallTag) : Type 0 where
  pub get : default_gets tag ≡ GetAction.Bypass
  pub head : default_heads tag ≡ HeadAction.Bypass
  pub put : default_puts c tag ≡ Skip

-- the tag is of a Main or a Reader, for a compacted object
pub record Foreground (t : ObjectStoreCallTag) : Type 0 where
  pub kind : (t.kind ≡ Main) ⊎ (t.kind ≡ Reader)
  pub type : t.sst_type ≡ Compacted

pub record Rules : Type 0 where
  -- the cache is for tagged calls, never for the log, never for the garbage collector
  pub untagged : (c : CachePutConfig) → PassesBy c None
  pub log : (c : CachePutConfig) (t : ObjectStoreCallTag) → t.sst_type ≡ Wal → PassesBy c (Some t)
  pub collector : (c : CachePutConfig) (t : ObjectStoreCallTag) → t.kind ≡ GC → PassesBy c (Some t)
  -- a get that is made again is not answered from what is held
  pub again : (t : ObjectStoreCallTag) → t.retry ≡ true → GetServed (default_gets (Some t)) → ⊥
  -- nothing that a compactor reads is saved
  pub compactor_get : (t : ObjectStoreCallTag) → t.kind ≡ Compactor → GetSaved (default_gets (Some t)) → ⊥
  pub compactor_head : (t : ObjectStoreCallTag) → t.kind ≡ Compactor → HeadSaved (default_heads (Some t)) → ⊥
  -- the others read compacted objects through the cache, and fetch them again where that was bad
  pub first_get : (t : ObjectStoreCallTag) → Foreground t → t.retry ≡ false → default_gets (Some t) ≡ GetAction.ReadThrough
  pub next_get : (t : ObjectStoreCallTag) → Foreground t → t.retry ≡ true → default_gets (Some t) ≡ GetAction.Refetch
  pub any_head : (t : ObjectStoreCallTag) → Foreground t → default_heads (Some t) ≡ HeadAction.ReadThrough
  -- a put is saved only of a compacted object, and only where its writer's mark is on
  pub compacted : (c : CachePutConfig) (t : ObjectStoreCallTag) → PutSaved (default_puts c (Some t)) → t.sst_type ≡ Compacted
  pub on : (c : CachePutConfig) (t : ObjectStoreCallTag) → PutSaved (default_puts c (Some t))
      → ((t.kind ≡ Main) × (c.cache_on_flush ≡ true)) ⊎ ((t.kind ≡ Compactor) × (c.cache_on_compaction ≡ true))
  -- and it is saved there
  pub flush : (c : CachePutConfig) (t : ObjectStoreCallTag) → t.kind ≡ Main → t.sst_type ≡ Compacted → c.cache_on_flush ≡ true
      → PutSaved (default_puts c (Some t))
  pub compaction : (c : CachePutConfig) (t : ObjectStoreCallTag) → t.kind ≡ Compactor → t.sst_type ≡ Compacted → c.cache_on_compaction ≡ true
      → PutSaved (default_puts c (Some t))
