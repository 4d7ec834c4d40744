use Rattle.check_cores.proofs.compare.compare_list.Goals as goal

pub do_turns-done-requires-clause-machine : goal.do_turns-done-requires-clause-machine
do_turns-done-requires-clause-machine c =
    let machine = c.in_ok-machine.ensures in
    let schema_is = machine.1 in
    (machine.0, (cc), machine.2)
