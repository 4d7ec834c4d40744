-- The way of a notice: the end that it goes to, or why it isn't written.
use Rattle.std.specs.Prelude.{◌&&◌, not, [], Result, Ok, Err, if◌then◌else◌}
use Rattle.mj_base.specs.declared.ids.EndId.{EndId}
use Rattle.mj_base.specs.declared.ids.SeqId.{SeqId}
use Rattle.message_pipe.specs.Contents.{Contents}
use Rattle.message_pipe.specs.Ends.{end_of, is_closed, peer_of}
use Rattle.bind_model.specs.declared.asked.Notice.{Notice}
use Rattle.bind_model.specs.declared.endpoint.Endpoint.{Endpoint}
use Rattle.bind_model.specs.declared.told.Why.{Why}
use Rattle.bind_model.specs.declared.told.Why.TheVariants.{WrongSide}
use Rattle.bind_model.specs.Replies.{from_id, is_flush, is_receiver}
use Rattle.core_state.specs.Opens.{opened}
use Rattle.core_state.specs.Routers.{Routers, found_at}
use Rattle.core_sending.specs.Ways.{way_to}
use Rattle.data_pipe.specs.Table.{Lines}

-- from an open endpoint: only a remote asks of versions, but any end flushes
abbrev pub notice_from : Notice → Contents → Lines → EndId → Endpoint → Result EndId Why
notice_from notice pipes flows y r =
    if not (is_flush notice) && is_receiver r.side then Err WrongSide
    else way_to pipes flows (not (is_flush notice) && r.peer_closed) [] (peer_of (end_of pipes.ends y))

-- from an endpoint, where it is open
abbrev pub notice_at : Notice → Contents → Lines → EndId → Result Endpoint Why → Result EndId Why
notice_at notice pipes flows y (Err why) = Err why
notice_at notice pipes flows y (Ok r) = notice_from notice pipes flows y r

-- the end that a notice of a sequence goes to
abbrev pub notice_way : SeqId → EndId → Notice → Contents → Lines → Routers → Result EndId Why
notice_way seq y notice pipes flows endpoints =
    notice_at notice pipes flows y (opened seq (is_closed (end_of pipes.ends y)) (from_id notice) (found_at endpoints y (from_id notice)))
