-- At the other ends and tokens an event changes no table, no query, no flush and no data pipe.
use Rattle.std.proofs.Common.{◌≡◌, ℕ, false, [], refl}
use Rattle.std.specs.Prelude.{Option}
use Rattle.mj_base.specs.declared.ids.EndId.{EndId}
use Rattle.handle_table.specs.declared.thing.Thing.{Thing}
use Rattle.handle_table.specs.declared.thing.TokenId.{TokenId}
use Rattle.bind_model.specs.declared.asked.Asked.TheVariants.{Take, Notify, Flow as Move}
use Rattle.bind_model.specs.declared.asked.Notice.{Notice}
use Rattle.bind_model.specs.declared.asked.Notice.TheVariants.{Query, Flush}
use Rattle.bind_model.specs.declared.endpoint.Endpoint.{Endpoint}
use Rattle.bind_model.specs.declared.flow.Flow.{Flow}
use Rattle.bind_model.specs.declared.flow.Flow.TheVariants as to_flow
use Rattle.bind_model.specs.declared.flow.Flowed.{Flowed as FlowedType}
use Rattle.bind_model.specs.declared.flow.Flowed.TheVariants as flowed
use Rattle.bind_model.specs.declared.told.Noted.{Noted}
use Rattle.bind_model.specs.declared.told.Noted.TheVariants as noted
use Rattle.bind_model.specs.declared.told.Notified.{Notified}
use Rattle.bind_model.specs.declared.told.Notified.TheVariants.{Asking, Flushing}
use Rattle.bind_model.specs.declared.told.Told.TheVariants.{Control, Notified as Informed, Flowed}
use Rattle.handle_table.specs.Things.{same_end, same_token}
use Rattle.bind_model.specs.Data.{Begun, fills, begun_by, drains}
use Rattle.bind_model.specs.Machine.{marks}
use Rattle.bind_model.specs.Notices.{queries, versions, flushes, meets}

pub marks_else : (y x : EndId) (id : ℕ) (before : Option Endpoint) → same_end y x ≡ false → (c : Noted) → marks y c x id before ≡ before
marks_else y x id before e (noted.Closed n) = rw e refl
marks_else y x id before e c = refl

-- ## Queries and flushes

pub queries_else : (y x : EndId) (id : ℕ) → same_end y x ≡ false → (told : Notified) (notice : Notice)
    → queries (Informed told) (Notify y notice) x id ≡ 0
queries_else y x id e Asking (Query n) = rw e refl
queries_else y x id e told notice = refl

pub versions_else : (y x : EndId) (id : ℕ) → same_end y x ≡ false → (c : Noted) → versions (Control c) (Take y) x id ≡ 0
versions_else y x id e (noted.Version n v) = rw e refl
versions_else y x id e c = refl

pub flushes_else : (y x : EndId) → same_end y x ≡ false → (told : Notified) (notice : Notice) → flushes (Informed told) (Notify y notice) x ≡ []
flushes_else y x e (Flushing k) Flush = rw e refl
flushes_else y x e told notice = refl

pub meets_else : (y x : EndId) (k : ℕ) → same_end y x ≡ false → (c : Noted) → meets (Control c) (Take y) x k ≡ false
meets_else y x k e (noted.Flushed n) = rw e refl
meets_else y x k e c = refl

-- ## Data pipes

pub fills_else : (t p : TokenId) → same_token t p ≡ false → (w : FlowedType) (x : Thing) (f : Flow) → fills (Flowed t w) (Move x f) p ≡ []
fills_else t p e (flowed.Put n) x (to_flow.Put bytes all) = rw e refl
fills_else t p e (flowed.Put n) x (to_flow.EndPut bytes) = rw e refl
fills_else t p e w x f = refl

pub drains_else : (t c : TokenId) → same_token t c ≡ false → (w : FlowedType) (x : Thing) (f : Flow) (b : Begun)
    → drains (Flowed t w) (Move x f) c b ≡ []
drains_else t c e (flowed.Bytes bytes) x f b = rw e refl
drains_else t c e flowed.Ended x (to_flow.EndGet n) b = rw e refl
drains_else t c e w x f b = refl

pub begun_else : (t p : TokenId) → same_token t p ≡ false → (w : FlowedType) (x : Thing) (f : Flow) (b : Begun)
    → begun_by (Flowed t w) (Move x f) p b ≡ b
begun_else t p e (flowed.Space n) x f b = rw e refl
begun_else t p e (flowed.View bytes) x f b = rw e refl
begun_else t p e flowed.Ended x f b = rw e refl
begun_else t p e (flowed.Put n) x (to_flow.EndPut bytes) b = rw e refl
begun_else t p e w x f b = refl
