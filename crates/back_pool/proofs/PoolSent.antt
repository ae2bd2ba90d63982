-- A pool may be shared among threads.
use denote.RattleType.{RattleType}
use denote.Ref.{NamedLft}
use denote.Struct.Declared.{Declared, fields, row, shape}
use denote.Struct.Struct.{Struct}
use denote.Param.Send.{AllSend, AllSync, IsSend, IsSync, recorded_send, recorded_sync, sendable, struct_send, struct_sync}
use Rattle.std.proofs.Crossing.{crosses}
use Rattle.std.proofs.MapsCrossing as maps
use Rattle.atomic_table.proofs.send_lease.SendLease.TheSendSync as lease
use Rattle.atomic_table.proofs.shared.Shared.TheSendSync as shared
use Rattle.lto_outside.specs.declared.disk.CacheDisk as disk
use Rattle.cache_slot.proofs.records.Records.TheSendSync as records
use Rattle.cache_slot.specs.contracts.cache.SharedCache as cache
use Rattle.cache_slot.specs.contracts.shelf.Shelf as shelf
use Rattle.cache_slot.specs.declared.setting.Setting as setting
use Rattle.claim_word.specs.contracts.claims.Claims as claims
use Rattle.back_pool.specs.contracts.pool.Pool as pool
use Rattle.back_pool.specs.declared.backend.Backend as backend
use Rattle.back_pool.proofs.Sent.{task_sync}

-- of a struct, by its fields
declared_send : (T : Declared) → AllSend (fields T) → IsSend (row T)
declared_send T s = recorded_send (Struct (shape T)) T.D T.to T.to_one (struct_send (shape T) s)

declared_sync : (T : Declared) → AllSync (fields T) → IsSync (row T)
declared_sync T s = recorded_sync (Struct (shape T)) T.D T.to T.to_one (struct_sync (shape T) s)

pub claims_sync : IsSync (claims.the_field).row
claims_sync = search (shared.the_sync, lease.the_sync, sendable, crosses) depth 60 fits 20000

module _ (D S : RattleType) (d : disk.Ghosts D.Denot) (s : setting.Ghosts S.Denot) (send_D : IsSend D) (send_S : IsSend S) where
  shelf_fields : AllSend (fields (shelf.the_type D S d s))
  shelf_fields = (
    search (send_D, sendable, crosses) depth 20,
    (
      search (maps.crosses, sendable, crosses) depth 20,
      (
        search (records.the_field_send, sendable, crosses) depth 20,
        (search (send_S, sendable, crosses) depth 20, tt),
      ),
    ),
  )

  pub shelf_send : IsSend (shelf.the_row D S d s)
  shelf_send = declared_send (shelf.the_type D S d s) shelf_fields

  pub cache_sync : IsSync (cache.the_row D S d s)
  cache_sync = search (shelf_send, shared.the_sync, lease.the_sync, sendable, crosses) depth 60 fits 20000

  module _ (B G : RattleType) (b : backend.Ghosts B.Denot) (sync_B : IsSync B) (sync_G : IsSync G) (κ : NamedLft) where
    pool_fields : AllSync (fields (pool.the_type κ D S B G d s b))
    pool_fields = (
      search (task_sync, sendable, crosses) depth 20,
      (
        search (claims_sync, sendable, crosses) depth 20,
        (
          search (sync_B, sendable, crosses) depth 20,
          (
            search (cache_sync, sendable, crosses) depth 20,
            (search (sync_G, sendable, crosses) depth 20, tt),
          ),
        ),
      ),
    )

    pub pool_sync : IsSync (pool.the_row κ D S B G d s b)
    pool_sync = declared_sync (pool.the_type κ D S B G d s b) pool_fields
