use Rattle.std.proofs.Common.{refl}
use Rattle.mj_base.specs.Bytes.{number32}
use Rattle.wire_model.specs.Cells.{NO_INDEX}
use Rattle.message_validator.proofs.MapWalks.{other_counts}
use Rattle.message_validator.proofs.Walks.{index_claimed}
use Rattle.message_validator.proofs.leaves.check_handle.Goals as goal

pub returns-then-index-clause-follows : goal.returns-then-index-clause-follows
returns-then-index-clause-follows c =
    let some = other_counts (number32 c.args.bytes.now c.args.at) NO_INDEX c.le32-index.result NO_INDEX c.le32-index.ensures refl c.if-index.true in
    let follows = rw c.le32-index.ensures at c.claim_handle.ensures.follows in
    index_claimed c.claim_handle.result c.args.claims.now c.claim_handle.new.self _ _ c.args.bytes.now c.args.at c.args.nullable some follows
