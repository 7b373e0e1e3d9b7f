use Rattle.std.proofs.Common.{◌-◌, ◌^◌, arith, rules, take, get_or}
use Rattle.dimacs_read.proofs.Taken.{room_for, is_open, stopped, past, split_take, take_length, took_more, no_further, a_piece_further}
use Rattle.dimacs_read.proofs.pieces.read.Goals as goal

pub returns-in-Err-clause-answer : goal.returns-in-Err-clause-answer
returns-in-Err-clause-answer g c =
    rw c.in-Err.ensures.bytes
    (is_open (g.S.Source.left c.args.source.now) (g.S.Source.left c.loop-reader.source) c.loop-reader.reader c.loop-reader.taken c.loop-reader.invariant.read)

pub finish-requires-clause-room : goal.finish-requires-clause-room
finish-requires-clause-room g c =
    let few = room_for (g.S.Source.left c.args.source.now) (g.S.Source.left c.loop-reader.source) c.loop-reader.reader c.loop-reader.taken c.loop-reader.invariant.read in
    omega (arith, few)

pub finish_at-requires-clause-room : goal.finish_at-requires-clause-room
finish_at-requires-clause-room g c =
    let few = room_for (g.S.Source.left c.args.source.now) (g.S.Source.left c.loop-reader.source) c.loop-reader.reader c.loop-reader.taken c.loop-reader.invariant.read in
    let size = take_length c.read_piece.new.buf (2 ^ 33 - c.loop-reader.taken) (omega (arith, c.in-Ok.ensures.bound, c.if-count-room.true)) in
    omega (arith, few, size)

pub returns-then-count-room-clause-answer : goal.returns-then-count-room-clause-answer
returns-then-count-room-clause-answer g c =
    let room = 2 ^ 33 - c.loop-reader.taken in
    let buf = c.read_piece.new.buf in
    let has = c.loop-reader.invariant.read in
    let cut = split_take buf room c.in-Ok.count c.if-count-room.true c.in-Ok.ensures.bound.0 in
    let size = take_length buf room (omega (arith, c.in-Ok.ensures.bound, c.if-count-room.true)) in
    past (g.S.Source.left c.args.source.now) (g.S.Source.left c.loop-reader.source) (g.S.Source.left c.read_piece.new.source) c.loop-reader.reader c.loop-reader.taken (get_or buf room 0)
    (take c.in-Ok.count buf) (take room buf) cut.0 c.finish_at.result has c.in-Ok.ensures.bytes.0 cut.1 (omega (arith, size, has.few)) c.finish_at.ensures.found

pub take_bytes-requires-clause-room : goal.take_bytes-requires-clause-room
take_bytes-requires-clause-room g c =
    let few = room_for (g.S.Source.left c.args.source.now) (g.S.Source.left c.loop-reader.source) c.loop-reader.reader c.loop-reader.taken c.loop-reader.invariant.read in
    omega (arith, few, c.in-Ok.ensures.bound, c.if-count-room.false)

pub answer-requires : goal.answer-requires
answer-requires g c =
    let few = room_for (g.S.Source.left c.args.source.now) (g.S.Source.left c.loop-reader.source) c.loop-reader.reader c.loop-reader.taken c.loop-reader.invariant.read in
    omega (arith, few, c.in-Err-take_bytes.ensures.few, c.in-Ok.ensures.bound, c.if-count-room.false)

pub returns-in-Err-take_bytes-clause-answer : goal.returns-in-Err-take_bytes-clause-answer
returns-in-Err-take_bytes-clause-answer g c =
    let has = c.loop-reader.invariant.read in
    stopped (g.S.Source.left c.args.source.now) (g.S.Source.left c.loop-reader.source) (g.S.Source.left c.read_piece.new.source) c.loop-reader.reader c.take_bytes.new.self c.loop-reader.taken
    (take c.in-Ok.count c.read_piece.new.buf) c.in-Err-take_bytes.stop c.answer.result has c.in-Ok.ensures.bytes.0 (omega (arith, c.in-Ok.ensures.bound, c.if-count-room.false, has.few))
    c.in-Err-take_bytes.ensures.stops c.answer.ensures

pub loop-reader-preserved : goal.loop-reader-preserved
loop-reader-preserved g c =
    let has = c.loop-reader.invariant.read in
    record {
      read = took_more (g.S.Source.left c.args.source.now) (g.S.Source.left c.loop-reader.source) (g.S.Source.left c.read_piece.new.source) c.loop-reader.reader c.take_bytes.new.self c.loop-reader.taken
          c.in-Ok.count (take c.in-Ok.count c.read_piece.new.buf) has c.in-Ok.ensures.bytes.0 c.in_default.ensures.ok c.in-Ok.ensures.bound.1 (omega (arith, c.if-count-room.false, has.few));
      still = search rules;
    }

pub returns-in-Err-clause-rest : goal.returns-in-Err-clause-rest
returns-in-Err-clause-rest g c =
    rw c.in-Err.ensures.bytes
    (no_further (g.S.Source.left c.args.source.now) (g.S.Source.left c.loop-reader.source) c.loop-reader.reader c.loop-reader.taken c.loop-reader.invariant.read)

pub returns-in-Ok-eq0-clause-rest : goal.returns-in-Ok-eq0-clause-rest
returns-in-Ok-eq0-clause-rest g c =
    a_piece_further (g.S.Source.left c.args.source.now) (g.S.Source.left c.loop-reader.source) (g.S.Source.left c.read_piece.new.source) c.loop-reader.reader c.loop-reader.taken
    c.in-Ok-eq0.field-0 _ c.loop-reader.invariant.read c.in-Ok-eq0.ensures.bytes.0 c.in-Ok-eq0.ensures.bound.1 (omega (arith, c.in-Ok-eq0.field-0-is))

pub returns-then-count-room-clause-rest : goal.returns-then-count-room-clause-rest
returns-then-count-room-clause-rest g c =
    a_piece_further (g.S.Source.left c.args.source.now) (g.S.Source.left c.loop-reader.source) (g.S.Source.left c.read_piece.new.source) c.loop-reader.reader c.loop-reader.taken
    c.in-Ok.count _ c.loop-reader.invariant.read c.in-Ok.ensures.bytes.0 c.in-Ok.ensures.bound.1 (omega (arith, c.in-Ok.ensures.bound, c.read_piece.auto.buf))

pub returns-in-Err-take_bytes-clause-rest : goal.returns-in-Err-take_bytes-clause-rest
returns-in-Err-take_bytes-clause-rest g c =
    a_piece_further (g.S.Source.left c.args.source.now) (g.S.Source.left c.loop-reader.source) (g.S.Source.left c.read_piece.new.source) c.loop-reader.reader c.loop-reader.taken
    c.in-Ok.count _ c.loop-reader.invariant.read c.in-Ok.ensures.bytes.0 c.in-Ok.ensures.bound.1 (omega (arith, c.in-Ok.ensures.bound, c.read_piece.auto.buf))
