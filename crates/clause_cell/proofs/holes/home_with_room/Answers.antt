use Rattle.std.proofs.Common.{rules, ◌≤◌, ◌<◌, arith}
use Rattle.clause_cell.specs.Blocks.{end_of}
use Rattle.clause_cell.proofs.Steps.{split_of, split_same, split_filled, split_inside, split_some, lower_room, upper_room, lower_home, upper_home}
use Rattle.clause_cell.proofs.holes.home_with_room.Goals as goal

pub index-requires-2 : goal.index-requires-2
index-requires-2 c =
    let s = split_of c.args.first c.args.blocks.now.items c.as_slice.result.now c.halve.new.blocks.items c.home-i.result c.index.result.now c.is_full.result c.requires.blocks c.as_slice.ensures.value c.home-i.ensures c.index.ensures c.is_full.ensures.full c.is_full.ensures.few c.if-not-is_full.false c.in_ok-halve.ensures.halved in
    let inside = split_inside c.args.first c.args.blocks.now.items c.halve.new.blocks.items c.home-i.result s in
    omega arith

pub end-requires : goal.end-requires
end-requires c =
    let s = split_of c.args.first c.args.blocks.now.items c.as_slice.result.now c.halve.new.blocks.items c.home-i.result c.index.result.now c.is_full.result c.requires.blocks c.as_slice.ensures.value c.home-i.ensures c.index.ensures c.is_full.ensures.full c.is_full.ensures.few c.if-not-is_full.false c.in_ok-halve.ensures.halved in
    split_some c.args.first c.args.blocks.now.items c.halve.new.blocks.items c.home-i.result s c.index-2.result.now c.index-2.ensures

pub returns-then-end-first : goal.returns-then-end-first
returns-then-end-first c =
    let s = split_of c.args.first c.args.blocks.now.items c.as_slice.result.now c.halve.new.blocks.items c.home-i.result c.index.result.now c.is_full.result c.requires.blocks c.as_slice.ensures.value c.home-i.ensures c.index.ensures c.is_full.ensures.full c.is_full.ensures.few c.if-not-is_full.false c.in_ok-halve.ensures.halved in
    let ends = c.end.ensures in
    let test = c.if-end-first.true in
    let less : end_of c.index-2.result.now < c.args.first = omega arith in
    record {
      same = split_same c.args.first c.args.blocks.now.items c.halve.new.blocks.items c.home-i.result s;
      filled = split_filled c.args.first c.args.blocks.now.items c.halve.new.blocks.items c.home-i.result s;
      home = upper_home c.args.first c.args.blocks.now.items c.halve.new.blocks.items c.home-i.result s c.index-2.result.now c.index-2.ensures less;
      room = upper_room c.args.first c.args.blocks.now.items c.halve.new.blocks.items c.home-i.result s;
      memory = search rules;
    }

pub returns : goal.returns
returns c =
    let s = split_of c.args.first c.args.blocks.now.items c.as_slice.result.now c.halve.new.blocks.items c.home-i.result c.index.result.now c.is_full.result c.requires.blocks c.as_slice.ensures.value c.home-i.ensures c.index.ensures c.is_full.ensures.full c.is_full.ensures.few c.if-not-is_full.false c.in_ok-halve.ensures.halved in
    let ends = c.end.ensures in
    let test = c.if-end-first.false in
    let le : c.args.first ≤ end_of c.index-2.result.now = omega arith in
    record {
      same = split_same c.args.first c.args.blocks.now.items c.halve.new.blocks.items c.home-i.result s;
      filled = split_filled c.args.first c.args.blocks.now.items c.halve.new.blocks.items c.home-i.result s;
      home = lower_home c.args.first c.args.blocks.now.items c.halve.new.blocks.items c.home-i.result s c.index-2.result.now c.index-2.ensures le;
      room = lower_room c.args.first c.args.blocks.now.items c.halve.new.blocks.items c.home-i.result s;
      memory = search rules;
    }
