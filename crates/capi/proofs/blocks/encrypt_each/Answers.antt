use Rattle.std.proofs.Common.{◌≡◌, ◌/◌, length, refl, arith}
use Rattle.capi.proofs.Places.{first, again, ends}
use Rattle.capi.proofs.blocks.encrypt_each.Goals as goal

pub loop-i-init : goal.loop-i-init
loop-i-init g c = first (g.C.Cipher.forward c.args.cipher.now) c.args.bytes.now

pub loop-i-preserved : goal.loop-i-preserved
loop-i-preserved g c =
    again (g.C.Cipher.forward c.args.cipher.now) c.loop-i.i c.load-block.result c.encrypt.result c.args.bytes.now c.loop-i.bytes c.store.new.bytes
    c.loop-i.invariant c.load-block.ensures c.encrypt.ensures (omega arith) c.store.ensures

pub returns : goal.returns
returns g c =
    let n : c.loop-i.i ≡ length c.args.bytes.now / 16 = omega arith in
    record {
      count = refl;
      blocks = ends (g.C.Cipher.forward c.args.cipher.now) c.loop-i.i c.args.bytes.now c.loop-i.bytes n c.loop-i.invariant;
    }
