use Rattle.std.proofs.Common.{refl}
use Rattle.std.proofs.lemmas.Result.{err_from_is_err_and}
use Rattle.mode.specs.Pairs.{maps}
use Rattle.station.proofs.Opens.{refused, accepted}
use Rattle.station.proofs.state.Station.open.Goals as goal

pub returns-in_err-length : goal.returns-in_err-length
returns-in_err-length g c =
    let p = err_from_is_err_and c.from_residual-in_err-length.result c.from_residual-in_err-length.ensures.1 in
    let w = maps g.C.Cipher g.M.Masking c.args.self.now.pair in
    let o = c.in_ok-parts.ensures.0 in
    let fit = c.in_ok-parts.ensures.1 in
    rw (p.1, p.2)
    (refused w c.args.self.now c.args.frame.now c.args.out.now c.open.new.out c.in_ok-parts.parts o fit c.in_err-length.field-0.0 c.in_err-length.ensures, refl)

pub returns : goal.returns
returns g c =
    let w = maps g.C.Cipher g.M.Masking c.args.self.now.pair in
    let o = c.in_ok-parts.ensures.0 in
    let fit = c.in_ok-parts.ensures.1 in
    record {
      sender_is = fit.1;
      above = fit.2;
      opened = accepted w c.args.self.now c.args.frame.now c.args.out.now c.open.new.out c.in_ok-parts.parts o fit c.in_ok-length.length c.in_ok-length.ensures;
      number_is = o.number_is;
      out_is = refl;
      next_is = refl;
      highest_is = o.number_is;
      reserved_is = refl;
      sealed_is = refl;
      off_is = refl;
      stays = record { pair_is = refl; own_is = refl; peer_is = refl };
    }
