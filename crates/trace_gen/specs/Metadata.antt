-- The text that declares what the files of a trace hold (TSDL of CTF 1.8; which declarations there are is this project's own).
use Rattle.std.specs.Prelude.{ℕ, List, ◌++◌, codes}
use Rattle.std.specs.Fmt.{decimal}

-- the text up to the host's number
abbrev pub text_before : List ℕ
text_before =
    codes "/* CTF 1.8 */\n"
    ++ codes "typealias integer { size = 8; } := uint8_t;\n"
    ++ codes "typealias integer { size = 16; } := uint16_t;\n"
    ++ codes "typealias integer { size = 32; } := uint32_t;\n"
    ++ codes "typealias integer { size = 32; signed = true; } := int32_t;\n"
    ++ codes "typealias integer { size = 64; } := uint64_t;\n"
    ++ codes "typealias integer { size = 64; signed = true; } := int64_t;\n"
    ++ codes "typealias integer { size = 64; } := unsigned long;\n"
    ++ codes "typealias integer { size = 5; align = 1; } := uint5_t;\n"
    ++ codes "trace { major = 1; minor = 8; byte_order = le;\n"
    ++ codes "packet.header := struct { uint32_t magic; uint32_t stream_id; }; };\n"
    ++ codes "env { hostname = \"node"

-- the text after it: the clock, then what stands in packets and in events
abbrev pub text_after : List ℕ
text_after =
    codes "\"; domain = \"kernel\"; };\n"
    ++ codes "clock { name = \"mono\"; freq = 1000000000; offset = 0; };\n"
    ++ codes "typealias integer { size = 27; align = 1; map = clock.mono.value; } := uint27_clock_t;\n"
    ++ codes "typealias integer { size = 64; map = clock.mono.value; } := uint64_clock_t;\n"
    ++ codes "struct packet_context { uint64_clock_t timestamp_begin; uint64_clock_t timestamp_end;\n"
    ++ codes "uint64_t content_size; uint64_t packet_size; uint64_t packet_seq_num;\n"
    ++ codes "unsigned long events_discarded; uint32_t cpu_id; };\n"
    ++ codes "struct event_header_compact {\n"
    ++ codes "enum : uint5_t { compact = 0 ... 30, extended = 31 } id;\n"
    ++ codes "variant <id> { struct { uint27_clock_t timestamp; } compact;\n"
    ++ codes "struct { uint32_t id; uint64_clock_t timestamp; } extended; } v; } align(8);\n"
    ++ codes "struct net { enum : uint8_t { \"unknown\" = 0, \"ipv4\" = 4 } _network_header_type;\n"
    ++ codes "variant <_network_header_type> { struct { } _unknown;\n"
    ++ codes "struct { uint8_t _saddr[4]; uint8_t _daddr[4]; uint16_t _source_port;\n"
    ++ codes "uint16_t _dest_port; uint32_t _seq; uint32_t _ack_seq; uint16_t _flags; } _ipv4;\n"
    ++ codes "} _network_header; };\n"
    ++ codes "stream { id = 0; event.header := struct event_header_compact;\n"
    ++ codes "packet.context := struct packet_context; };\n"
    ++ codes "event { name = \"sched_switch\"; id = 0; stream_id = 0; fields := struct {\n"
    ++ codes "uint8_t _prev_comm[16]; int32_t _prev_tid; int32_t _prev_prio; int64_t _prev_state;\n"
    ++ codes "uint8_t _next_comm[16]; int32_t _next_tid; int32_t _next_prio; }; };\n"
    ++ codes "event { name = \"net_dev_queue\"; id = 1; stream_id = 0; fields := struct net; };\n"
    ++ codes "event { name = \"netif_receive_skb\"; id = 2; stream_id = 0; fields := struct net; };\n"

-- the text of a host
abbrev pub metadata_text : ℕ → List ℕ
metadata_text host = text_before ++ (decimal host ++ text_after)
