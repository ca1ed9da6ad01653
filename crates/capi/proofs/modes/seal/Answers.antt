use Rattle.std.proofs.Common.{rules, Ok, refl}
use Rattle.capi.proofs.Places.{fills}
use Rattle.capi.proofs.modes.seal.Goals as goal

pub returns : goal.returns
returns c =
    rw c.in_ok-choice.was
    (record {
      asked = Ok c.in_ok-mode.mode;
      asks = c.in_ok-mode.ensures;
      given = record {
        answer = Ok c.in_ok-block.block;
        gives = search rules;
        tag_is = fills c.in_ok-block.block c.args.tag.now c.store.new.bytes (search rules) c.store.ensures;
        code_is = refl;
      };
    })
