use Rattle.std.proofs.Common.{sym}
use Rattle.channel_extract.proofs.cutting.lead_to_channel.Goals as goal
use Rattle.channel_extract.proofs.CutSegments.{header-there, upper-there, links-cut}

pub returns-in_default-clause-cut : goal.returns-in_default-clause-cut
returns-in_default-clause-cut c held channel =
    absurd (header-there held c.args.plans.now c.args.layouts.now c.args.segment.now c.args.kind c.args.channel channel
    (sym (c.in_default.ensures.header held c.args.plans.now channel.are c.requires.bodies)))

pub returns-in_default-upper_record-clause-cut : goal.returns-in_default-upper_record-clause-cut
returns-in_default-upper_record-clause-cut c held channel =
    absurd (upper-there held c.args.plans.now c.args.layouts.now c.args.segment.now c.args.kind c.args.channel channel
    (sym (c.in_default-upper_record.ensures.upper held channel.are)))

pub returns-clause-cut : goal.returns-clause-cut
returns-clause-cut c held channel =
    links-cut held c.args.plans.now c.args.layouts.now c.args.kind c.args.channel c.in-Some.header
    c.in-Some-upper_record.upper c.head_field-to_channels.result c.raw_data_field-to_raw_data.result
    c.next_field.result c.args.segment.now c.lead_only.new.segment c.lead_only-2.new.segment c.end_list.new.segment channel (record {
      reads = c.requires.bodies;
      channel_in = c.requires.channel;
      header_is = c.in-Some.ensures.header held c.args.plans.now channel.are c.requires.bodies;
      header_named = c.in-Some.ensures.named held c.args.plans.now channel.are;
      header_in = c.in-Some.ensures.within;
      upper_is = c.in-Some-upper_record.ensures.upper held channel.are;
      upper_named = c.in-Some-upper_record.ensures.named held channel.are;
      upper_in = c.in-Some-upper_record.ensures.within;
      head_is = c.head_field-to_channels.ensures;
      raw_is = c.raw_data_field-to_raw_data.ensures;
      next_is = c.next_field.ensures;
      first = record {
        links = c.in_ok-lead_only.ensures.links;
        same = c.in_ok-lead_only.ensures.same;
        nodes = c.in_ok-lead_only.ensures.nodes;
        records = c.in_ok-lead_only.ensures.records;
      };
      second = record {
        links = c.in_ok-lead_only-2.ensures.links;
        same = c.in_ok-lead_only-2.ensures.same;
        nodes = c.in_ok-lead_only-2.ensures.nodes;
        records = c.in_ok-lead_only-2.ensures.records;
      };
      third = record {
        links = c.end_list.ensures.links;
        nodes = c.end_list.ensures.nodes;
        records = c.end_list.ensures.records;
      };
    })
