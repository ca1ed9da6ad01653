use Rattle.std.proofs.Common.{ℕ, sym, refl, ap, ◌∙◌, add-one}
use Rattle.masking.specs.Steps.{times}
use Rattle.masking.proofs.turned.Goals as goal

pub loop-init : goal.loop-init
unfolding times
loop-init g c = record { fits = c.ranges.block.fits; reached = λ f h. refl }

pub loop-preserved : goal.loop-preserved
unfolding times
loop-preserved g c =
    record {
      fits = c.turn-reached.type_inv;
      reached =
          λ f h.
          h c.loop.reached c.turn-reached.result c.loop.invariant.fits c.turn-reached.ensures ∙ ap f (c.loop.invariant.reached f h)
          ∙ sym (ap (λ (n : ℕ). times f n c.args.block) (add-one c.loop.counter));
    }
