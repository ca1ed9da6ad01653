use Rattle.std.proofs.Common.{ℕ, ◌<◌, ◌^◌, get_or, rules}
use Rattle.aes.proofs.Rows.{row_is}
use Rattle.aes.proofs.state.mixed_row.Goals as goal

pub returns : goal.returns
returns g c p h =
    let fa : (i : ℕ) → get_or c.args.a i 0 < 2 ^ 8 = search (rules, c.well_formed.1.0) in
    let fb : (i : ℕ) → get_or c.args.b i 0 < 2 ^ 8 = search (rules, c.well_formed.1.1.0) in
    let fc : (i : ℕ) → get_or c.args.c i 0 < 2 ^ 8 = search (rules, c.well_formed.1.1.1.0) in
    let fd : (i : ℕ) → get_or c.args.d i 0 < 2 ^ 8 = search (rules, c.well_formed.1.1.1.1.0) in
    row_is
    (h (get_or c.args.a 0 0) (get_or c.args.b 0 0) (get_or c.args.c 0 0) (get_or c.args.d 0 0) c.mix.result (fa 0) (fb 0) (fc 0) (fd 0) c.mix.ensures)
    (h (get_or c.args.a 1 0) (get_or c.args.b 1 0) (get_or c.args.c 1 0) (get_or c.args.d 1 0) c.mix-2.result (fa 1) (fb 1) (fc 1) (fd 1) c.mix-2.ensures)
    (h (get_or c.args.a 2 0) (get_or c.args.b 2 0) (get_or c.args.c 2 0) (get_or c.args.d 2 0) c.mix-3.result (fa 2) (fb 2) (fc 2) (fd 2) c.mix-3.ensures)
    (h (get_or c.args.a 3 0) (get_or c.args.b 3 0) (get_or c.args.c 3 0) (get_or c.args.d 3 0) c.mix-4.result (fa 3) (fb 3) (fc 3) (fd 3) c.mix-4.ensures)
