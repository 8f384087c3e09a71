mod Retired
