use Rattle.fill_tests.proofs.plans.edited.Goals as goal

pub returns : goal.returns
returns g c =
    record {
      edit = c.args.edit.now;
      sound = c.of-grid.ensures.sound;
      valid = c.in-Ok.ensures.valid;
      makes = c.in-Ok.ensures.plan;
      has = c.changed-boxes.ensures.boxes;
    }
