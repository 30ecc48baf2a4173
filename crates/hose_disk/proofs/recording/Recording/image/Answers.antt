use Rattle.std.proofs.Common.{◌<◌, ◌^◌, List, ℕ, length, rules, subst, sym}
use Rattle.hose_disk.specs.steps.Images.{IsImage, calls_at}
use Rattle.hose_disk.proofs.Picked.{picked_from, picked_image, picked_small, fits_from}
use Rattle.hose_disk.proofs.recording.Recording.image.Goals as goal

pub returns-clause-picked : goal.returns-clause-picked
returns-clause-picked c =
    picked_from c.args.pick c.self.inside.first.items _ c.self.inside.calls.items c.args.self.now c.args.calls c.self.view_is (search rules) (search rules)

pub returns-clause-image : goal.returns-clause-image
returns-clause-image c =
    let made = c.args.self.now in
    subst (λ (image : List ℕ). IsImage made.first (calls_at made.calls c.args.calls) image) (sym (returns-clause-picked c))
    (picked_image c.args.pick made.first (calls_at made.calls c.args.calls) (fits_from c.self.inside.first.items c.self.inside.calls.items made c.args.calls c.self.view_is c.self.invariant.2))

pub returns-clause-small : goal.returns-clause-small
returns-clause-small c =
    let made = c.args.self.now in
    subst (λ (image : List ℕ). length image < 2 ^ 62) (sym (returns-clause-picked c))
    (picked_small c.args.pick made.first (calls_at made.calls c.args.calls) (fits_from c.self.inside.first.items c.self.inside.calls.items made c.args.calls c.self.view_is c.self.invariant.2))
